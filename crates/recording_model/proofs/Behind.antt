-- Reads, and a batch that is visited behind them.
use Rattle.std.proofs.Common.{◌≡◌, ℕ, List, ◌++◌, Option, None, Some, option_map, refl, ap, ◌∙◌}
use Rattle.visit_model.specs.Visits as looking
use Rattle.change_model.specs.Visits as changing
use Rattle.recording_model.specs.Replays.{Visits, Refusal, and_reads, and_batch, batch_behind, of_batch}

-- where further reads stand behind a read and none is refused, neither are the parts
pub reads-passed : (o : Option looking.Refusal) (digests : List (List ℕ)) (value : Option (List ℕ)) (further : Visits) → (and_reads o digests value further).refusal ≡ None → (o ≡ None) × (further.refusal ≡ None)
unfolding and_reads
reads-passed None digests value further e = (refl, e)
reads-passed (Some why) digests value further e = cc

pub behind-reads : (reads : Visits) (batch : changing.Visits) → reads.refusal ≡ None → batch_behind reads batch ≡ record { digests = reads.digests ++ batch.digests; answers = reads.answers; refusal = option_map of_batch batch.refusal }
unfolding and_batch
behind-reads reads batch e = ap (λ o. and_batch o reads batch) e

pub both-pass : (reads : Visits) (batch : changing.Visits) → reads.refusal ≡ None → batch.refusal ≡ None → (batch_behind reads batch).refusal ≡ None
both-pass reads batch e k = ap (λ (v : Visits). v.refusal) (behind-reads reads batch e) ∙ ap (option_map of_batch) k

-- and the other way round
pub both-passed : (reads : Visits) (batch : changing.Visits) → (batch_behind reads batch).refusal ≡ None → (reads.refusal ≡ None) × (batch.refusal ≡ None)
unfolding and_batch
both-passed reads batch e = go reads.refusal refl e
  where
    plain : (why : Option changing.Refusal) → option_map of_batch why ≡ None → why ≡ None
    plain None k = refl
    plain (Some why) k = cc

    go : (o : Option Refusal) → reads.refusal ≡ o → (and_batch o reads batch).refusal ≡ None → (reads.refusal ≡ None) × (batch.refusal ≡ None)
    go None same k = (same, plain batch.refusal k)
    go (Some why) same k = cc (same, k)
