use Rattle.std.proofs.Common.{◌≡◌, ℕ, List, [], ◌∷◌, ◌++◌, length, Option, Some, None, refl, ap, arith}
use Rattle.std.specs.Prelude.{codes}
use Rattle.std.specs.Fmt.{decimal, digits}
use Rattle.std.specs.FinMap.{entries}
use Rattle.hex.specs.Hex.{encode_with}
use Rattle.hex.proofs.OnLiterals.{hex_on_literals}
use Rattle.script_model.specs.Spellings.{hex_text}
use Rattle.trie_model.proofs.Worked.{total-empty}
use Rattle.change_model.proofs.Worked.{all_of_batches}
use Rattle.change_model.specs.Examples.{delete_b}
use Rattle.fork_model.specs.States.{after_head, kept_changes}
use Rattle.fork_model.specs.Examples.{id_of}
use Rattle.fork_model.proofs.Worked.{all_of_forks}
use Rattle.count_model.specs.Tables.{distinct_texts}
use Rattle.count_model.specs.Examples.{one_line, set_two, set_alike}
use Rattle.count_model.proofs.Worked.{all_of_counts, on_line, distinct_along, distinct_passed, first-pairs, second-pairs}
use Rattle.output_model.specs.Ends.{line_of}
use Rattle.output_model.specs.Readings.{value_text}
use Rattle.output_model.proofs.Unchanged.{len-none}
use Rattle.output_model.proofs.Read.{total-told, value-told, len-told, keys-told, stats-told}
use Rattle.output_model.proofs.examples.readings_of_one_line.Goals as goal

abbrev usage_is : ℕ → List ℕ
usage_is n = line_of (codes "usage " ++ decimal n)

pub returns-clause-usage : goal.returns-clause-usage
unfolding all_of_batches all_of_forks digits
returns-clause-usage c = ap usage_is (total-told _ _ 308 (first-pairs _ tt) tt refl)

pub returns-clause-usage_behind : goal.returns-clause-usage_behind
unfolding all_of_batches all_of_forks digits
returns-clause-usage_behind c = ap usage_is (total-told _ _ 105 (second-pairs _ tt tt) tt refl)

pub returns-clause-usage_start : goal.returns-clause-usage_start
unfolding all_of_batches all_of_forks digits
returns-clause-usage_start c = ap usage_is total-empty

pub returns-clause-usage_not_live : goal.returns-clause-usage_not_live
unfolding all_of_batches all_of_forks digits
returns-clause-usage_not_live c = refl

pub returns-clause-deleted : goal.returns-clause-deleted
unfolding all_of_batches all_of_forks digits encode_with hex_on_literals hex_text
returns-clause-deleted c = ap (λ o. line_of (codes "trie " ++ value_text o)) (value-told _ _ (0x62 ∷ []) None (second-pairs _ tt tt) refl)

pub returns-clause-kept : goal.returns-clause-kept
unfolding all_of_batches all_of_forks digits encode_with hex_on_literals hex_text
returns-clause-kept c = ap (λ o. line_of (codes "trie " ++ value_text o)) (value-told _ _ (0x61 ∷ []) (Some (0x61 ∷ [])) (second-pairs _ tt tt) refl)

pub returns-clause-flat : goal.returns-clause-flat
unfolding all_of_batches all_of_forks digits encode_with hex_on_literals hex_text
returns-clause-flat c = ap (λ o. line_of (codes "flat " ++ value_text o)) (value-told _ _ (0x62 ∷ []) None (second-pairs _ tt tt) refl)

pub returns-clause-not_live : goal.returns-clause-not_live
unfolding all_of_batches all_of_forks digits
returns-clause-not_live c = refl

keys-deleted : length (entries delete_b) ≡ 1
keys-deleted = keys-told {X = Option (List ℕ)} ((0x62 ∷ [], None) ∷ []) tt

deltas-two : kept_changes (one_line set_two) ≡ 3
unfolding all_of_forks
deltas-two = omega (arith, keys-told {X = Option (List ℕ)} ((0x61 ∷ [], Some (0x61 ∷ [])) ∷ (0x62 ∷ [], Some (0x62 ∷ [])) ∷ []) tt, keys-deleted)

deltas-alike : kept_changes (one_line set_alike) ≡ 3
unfolding all_of_forks
deltas-alike = omega (arith, keys-told {X = Option (List ℕ)} ((0x61 ∷ [], Some (0x76 ∷ [])) ∷ (0x62 ∷ [], Some (0x76 ∷ [])) ∷ []) tt, keys-deleted)

distinct-two : distinct_texts (one_line set_two) ≡ 7
unfolding all_of_batches all_of_counts
distinct-two = on_line _ distinct_along _ tt tt refl

distinct-alike : distinct_texts (one_line set_alike) ≡ 5
unfolding all_of_batches all_of_counts
distinct-alike = on_line _ distinct_along _ tt tt refl

distinct-two_behind : distinct_texts (after_head (one_line set_two) (id_of 2)) ≡ 2
unfolding all_of_batches all_of_counts
distinct-two_behind = on_line _ distinct_passed _ tt tt refl

distinct-alike_behind : distinct_texts (after_head (one_line set_alike) (id_of 2)) ≡ 2
unfolding all_of_batches all_of_counts
distinct-alike_behind = on_line _ distinct_passed _ tt tt refl

pub returns-clause-stats : goal.returns-clause-stats
unfolding all_of_forks digits
returns-clause-stats c = stats-told 3 _ _ _ 0 3 7 len-none deltas-two distinct-two

pub returns-clause-stats_behind : goal.returns-clause-stats_behind
unfolding all_of_batches all_of_forks digits
returns-clause-stats_behind c = stats-told 1 _ _ _ 1 0 2 (len-told _ _ (second-pairs _ tt tt)) refl distinct-two_behind

pub returns-clause-alike : goal.returns-clause-alike
unfolding all_of_forks digits
returns-clause-alike c = stats-told 3 _ _ _ 0 3 5 len-none deltas-alike distinct-alike

pub returns-clause-alike_behind : goal.returns-clause-alike_behind
unfolding all_of_batches all_of_forks digits
returns-clause-alike_behind c = stats-told 1 _ _ _ 1 0 2 (len-told _ _ (second-pairs _ tt tt)) refl distinct-alike_behind
