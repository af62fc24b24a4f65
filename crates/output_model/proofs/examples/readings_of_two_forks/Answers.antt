use Rattle.std.proofs.Common.{◌≡◌, ◌≢◌, ℕ, List, [], ◌∷◌, ◌++◌, length, Option, Some, refl, ap, arith}
use Rattle.std.specs.Prelude.{codes}
use Rattle.std.specs.Fmt.{digits}
use Rattle.std.specs.FinMap.{entries, len}
use Rattle.change_model.proofs.Worked.{all_of_batches}
use Rattle.batch_model.specs.Changes.{after}
use Rattle.fork_model.specs.States.{after_head, kept_changes}
use Rattle.fork_model.specs.Examples.{id_of}
use Rattle.fork_model.proofs.Worked.{all_of_forks}
use Rattle.count_model.specs.Tables.{distinct_texts}
use Rattle.count_model.specs.Examples.{two_forks, set_two}
use Rattle.count_model.proofs.Worked.{all_of_counts, no_pairs, on_line, distinct_along, distinct_passed, first-pairs}
use Rattle.output_model.specs.Ends.{line_of}
use Rattle.output_model.specs.Readings.{same_states}
use Rattle.output_model.proofs.Unchanged.{len-none}
use Rattle.output_model.proofs.Read.{len-told, keys-told, stats-told}
use Rattle.output_model.proofs.Same.{states-same, states_differ}
use Rattle.std.specs.Prelude.{if◌then◌else◌, Bool}
use Rattle.output_model.proofs.examples.readings_of_two_forks.Goals as goal

keys-two : length (entries set_two) ≡ 2
keys-two = keys-told {X = Option (List ℕ)} ((0x61 ∷ [], Some (0x61 ∷ [])) ∷ (0x62 ∷ [], Some (0x62 ∷ [])) ∷ []) tt

deltas : kept_changes two_forks ≡ 4
unfolding all_of_forks
deltas = omega (arith, keys-two)

distinct : distinct_texts two_forks ≡ 6
unfolding all_of_batches all_of_counts
distinct = on_line _ (λ start first second. distinct_along start first first) _ tt tt refl

distinct_dropped : distinct_texts (after_head two_forks (id_of 1)) ≡ 6
unfolding all_of_batches all_of_counts
distinct_dropped = on_line _ (λ start first second. distinct_passed start second first) _ tt tt refl

differ : after no_pairs set_two ≢ no_pairs
unfolding all_of_batches
differ e =
    let two : len (after no_pairs set_two) ≡ 2 = len-told (after no_pairs set_two) _ (first-pairs _ tt) in
    let as_none : len (after no_pairs set_two) ≡ len no_pairs = ap len e in
    absurd (omega (arith, two, as_none, len-none))

abbrev same_is : Bool → List ℕ
same_is b = line_of (codes "same " ++ (if b then codes "yes" else codes "no"))

pub returns-clause-same : goal.returns-clause-same
unfolding all_of_forks
returns-clause-same c = ap same_is (states-same _ _ refl)

pub returns-clause-start : goal.returns-clause-start
unfolding all_of_batches all_of_forks same_states
returns-clause-start c = ap same_is (states_differ _ _ differ)

pub returns-clause-not_live : goal.returns-clause-not_live
unfolding all_of_forks
returns-clause-not_live c = refl

pub returns-clause-stats : goal.returns-clause-stats
unfolding all_of_forks digits
returns-clause-stats c = stats-told 3 _ _ _ 0 4 6 len-none deltas distinct

pub returns-clause-stats_behind : goal.returns-clause-stats_behind
unfolding all_of_batches all_of_forks digits
returns-clause-stats_behind c = stats-told 1 _ _ _ 2 0 6 (len-told _ _ (first-pairs _ tt)) refl distinct_dropped
