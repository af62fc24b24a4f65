-- Worked batches by computing: what they make of what is seen, told by the entries of a state and of a batch.
use Rattle.std.proofs.Common.{◌≡◌, ℕ, List, [], map, refl}
use Rattle.byte_model.specs.Nibbles.{nibbles}
use Rattle.trie_model.specs.State.{State, rows_of}
use Rattle.trie_model.specs.Root.{subtree_at}
use Rattle.std.specs.FinMap.{entries}
use Rattle.trie_model.proofs.Worked.{Pair}
use Rattle.visit_model.specs.Shown.{shown}
use Rattle.batch_model.specs.Changes.{Changes, Change, after, change_rows}
use Rattle.change_model.proofs.Worked.{all_of_visits, subtree_of}
use Rattle.change_model.specs.Along.{digest_of}
use Rattle.update_model.specs.Tops.{pending, top_of, top_usage, top_digest, lowered, top_behind, ref_here}
use Rattle.update_model.specs.Joins.{is_there, kid_top, kid_name, kid_usage, kid_pending, joint}
use Rattle.update_model.specs.Updates.{Outcome, laid_within, longest_change, laid, top_seen, lost_alone, updated}

-- what a proof by computing opens
unfoldable pub all_of_updates : ℕ
unfolding all_of_visits digest_of pending top_of top_usage top_digest lowered top_behind ref_here is_there kid_top kid_name kid_usage kid_pending joint laid_within longest_change laid top_seen lost_alone updated
all_of_updates = 0

abbrev pub outcome_of : List Pair → List Pair → List Change → Outcome
outcome_of pairs later changes = updated (shown (subtree_of pairs [])) (map (λ change. (nibbles change.0, change.1)) changes)

pub outcome-told : (state : State) (changes : Changes) → updated (shown (subtree_at state [])) (change_rows changes) ≡ outcome_of (entries state) (entries (after state changes)) (entries changes)
unfolding subtree_at rows_of
outcome-told state changes = refl
