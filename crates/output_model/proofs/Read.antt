-- What is read of worked histories, by computing over the pairs of their states.
use Rattle.std.proofs.Common.{◌≡◌, ℕ, List, [], T, length, Option, nat_cmp, sym, ap, ◌∙◌, subst}
use Rattle.std.specs.Cmp.Lexicographic.{slice_cmp}
use Rattle.std.specs.FinMap.{entries, entries-from_sorted, find, from_sorted, get, get-entries, is_sorted, len, len-entries, same_entries_map}
use Rattle.trie_model.specs.State.{State}
use Rattle.trie_model.specs.Tree.{tree_of, below}
use Rattle.trie_model.specs.Texts.{usage}
use Rattle.trie_model.specs.Root.{total}
use Rattle.trie_model.proofs.Worked.{Pair, rows_of_pairs, total-from_sorted}
use Rattle.output_model.specs.Readings.{stats_of}

abbrev total_of : List Pair → ℕ
total_of pairs = usage (tree_of (below [] (rows_of_pairs pairs)))

pub total-told : (state : State) (pairs : List Pair) (n : ℕ) → entries state ≡ pairs → T (is_sorted (slice_cmp nat_cmp) pairs) → total_of pairs ≡ n → total state ≡ n
total-told state pairs n e sorted is =
    subst (λ (s : State). total s ≡ n) (same_entries_map (from_sorted pairs) state (entries-from_sorted (slice_cmp nat_cmp) pairs sorted ∙ sym e)) (total-from_sorted pairs n sorted is)

pub value-told : (state : State) (pairs : List Pair) (key : List ℕ) (found : Option (List ℕ)) → entries state ≡ pairs → find (slice_cmp nat_cmp) key pairs ≡ found → get state key ≡ found
value-told state pairs key found e is = get-entries state key ∙ ap (find (slice_cmp nat_cmp) key) e ∙ is

pub len-told : (state : State) (pairs : List Pair) → entries state ≡ pairs → len state ≡ length pairs
len-told state pairs e = len-entries state ∙ ap length e

pub keys-told : {X : Type 0} (rows : List (List ℕ × X)) → T (is_sorted (slice_cmp nat_cmp) rows) → length (entries {R = slice_cmp nat_cmp} (from_sorted rows)) ≡ length rows
keys-told rows sorted = ap length (entries-from_sorted (slice_cmp nat_cmp) rows sorted)

pub stats-told : (live pairs deltas distinct p d t : ℕ) → pairs ≡ p → deltas ≡ d → distinct ≡ t → stats_of live pairs deltas distinct ≡ stats_of live p d t
stats-told live pairs deltas distinct p d t e f g = λ i. stats_of live (e i) (f i) (g i)
