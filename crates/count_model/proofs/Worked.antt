-- Worked histories by computing: what is told of the texts of their states can be computed from the pairs of these.
use Rattle.std.proofs.Common.{◌≡◌, ℕ, ◌+◌, ◌-◌, ◌==◌, ◌&&◌, ◌||◌, not, cond, nat_eq, List, [], ◌∷◌, ◌++◌, map, length, sum_by, T, Option, None, is_some, nat_cmp, refl, sym, ◌∙◌, ap, ap₂, subst}
use Rattle.std.specs.List.{count_by, filter}
use Rattle.std.specs.Cmp.Lexicographic.{slice_cmp, pointwise}
use Rattle.std.specs.FinMap.{empty, entries, entries-from_sorted, find, from_sorted, get-entries, is_sorted, same_entries_map, len-empty, len-entries}
use Rattle.std.proofs.lemmas.List.{nil_from_length}
use Rattle.sha2.specs.Sha256.{sha256}
use Rattle.trie_model.specs.State.{State, rows_of}
use Rattle.trie_model.specs.Root.{subtree_at, texts_of}
use Rattle.trie_model.proofs.Worked.{Pair, rows_of_pairs, texts_of-empty}
use Rattle.byte_model.specs.Nibbles.{nibbles}
use Rattle.trie_model.specs.Texts.{places}
use Rattle.batch_model.specs.Changes.{Change, Changes, after, after_each}
use Rattle.change_model.specs.Ledger.{made_texts}
use Rattle.change_model.specs.Places.{above, all_stand_below, is_branch, is_touched, leads_to, remains_alone, touched_places}
use Rattle.change_model.specs.Examples.{delete_b}
use Rattle.change_model.proofs.Worked.{laid, paths_of, subtree_of, made_of, made-told, texts_in, touched_of, touched-told, worked}
use Rattle.fork_model.proofs.Worked.{all_of_forks}
use Rattle.count_model.specs.Counts.{rise, counted}
use Rattle.count_model.specs.Tables.{different, live_texts}
use Rattle.count_model.specs.Loads.{batch_loads, lookup_loads, usage_loads}

-- what a proof by computing opens
unfoldable pub all_of_counts : ℕ
unfolding all_of_forks rise counted live_texts different
all_of_counts = 0

-- ---- the states on a line

abbrev pub no_pairs : State
no_pairs = empty

pub start-pairs : entries no_pairs ≡ []
start-pairs = nil_from_length (entries no_pairs) (sym (len-entries no_pairs) ∙ len-empty (slice_cmp nat_cmp) (List ℕ))

pub entries-laid : (state : State) (pairs : List Pair) (changes : List Change) → entries state ≡ pairs → T (is_sorted (slice_cmp nat_cmp) pairs) → T (is_sorted (slice_cmp nat_cmp) changes) → entries (after state (from_sorted changes)) ≡ laid pairs changes
entries-laid state pairs changes e sorted rising =
    subst (λ (s : State). entries (after s (from_sorted changes)) ≡ laid pairs changes)
    (same_entries_map (from_sorted pairs) state (entries-from_sorted (slice_cmp nat_cmp) pairs sorted ∙ sym e))
    (worked (λ ps later cs. later) pairs changes (laid pairs changes) sorted rising refl)

texts-told : (state : State) (pairs : List Pair) → entries state ≡ pairs → texts_of state ≡ texts_in pairs
unfolding texts_of subtree_at rows_of
texts-told state pairs e = ap texts_in e

-- ---- counts

abbrev in_texts : List (List ℕ) → List ℕ → ℕ
in_texts texts t = count_by (λ other. pointwise nat_eq other t) texts

abbrev in_digests : List (List ℕ) → List ℕ → ℕ
in_digests texts digest = count_by (λ other. pointwise nat_eq (sha256 other) digest) texts

abbrev all_texts : (start first second : List (List ℕ)) → List (List ℕ)
all_texts start first second = start ++ (first ++ (second ++ []))

-- a block over the start, and another over that one
abbrev along : (List (List ℕ) → List ℕ → ℕ) → (start first second : List (List ℕ)) → List ℕ → ℕ
along of start first second t = of start t + sum_by (λ n. n) ((of first t - of start t) ∷ (of second t - of first t) ∷ [])

-- two blocks over the start
abbrev beside : (List (List ℕ) → List ℕ → ℕ) → (start first second : List (List ℕ)) → List ℕ → ℕ
beside of start first second t = of start t + sum_by (λ n. n) ((of first t - of start t) ∷ (of second t - of start t) ∷ [])

abbrev pub counts_along : (start first second : List (List ℕ)) → List ℕ
counts_along start first second = map (along in_texts start first second) (all_texts start first second)

abbrev pub digests_along : (start first second : List (List ℕ)) → List ℕ
digests_along start first second = map (λ t. along in_digests start first second (sha256 t)) (all_texts start first second)

abbrev pub counts_beside : (start first second : List (List ℕ)) → List ℕ
counts_beside start first second = map (beside in_texts start first second) (all_texts start first second)

-- behind a move to the second block of a line, and to the first of two forks
abbrev pub counts_passed : (start first second : List (List ℕ)) → List ℕ
counts_passed start first second = map (λ t. in_texts second t + 0) (all_texts start first second)

abbrev pub counts_dropped : (start first second : List (List ℕ)) → List ℕ
counts_dropped start first second = map (λ t. in_texts first t + 0) (first ++ [])

-- how many different texts there are, on a line or two forks, and behind the move on the line
abbrev pub distinct_along : (start first second : List (List ℕ)) → ℕ
distinct_along start first second = different (all_texts start first second)

abbrev pub distinct_passed : (start first second : List (List ℕ)) → ℕ
distinct_passed start first second = different (second ++ [])

module _ (changes : List Change) where
  abbrev first_state : State
  first_state = after empty (from_sorted changes)

  abbrev second_state : State
  second_state = after first_state delete_b

  pub first-pairs : T (is_sorted (slice_cmp nat_cmp) changes) → entries first_state ≡ laid [] changes
  first-pairs rising = entries-laid no_pairs [] changes start-pairs tt rising

  pub second-pairs : T (is_sorted (slice_cmp nat_cmp) changes) → T (is_sorted (slice_cmp nat_cmp) (laid [] changes)) → entries second_state ≡ laid (laid [] changes) ((0x62 ∷ [], None) ∷ [])
  second-pairs rising sorted = entries-laid first_state (laid [] changes) ((0x62 ∷ [], None) ∷ []) (first-pairs rising) sorted tt

  -- What is made of the texts of the states of a line can be computed.
  pub on_line : {X : Type 0} (F : (start first second : List (List ℕ)) → X) (x : X) → T (is_sorted (slice_cmp nat_cmp) changes) → T (is_sorted (slice_cmp nat_cmp) (laid [] changes)) → F [] (texts_in (laid [] changes)) (texts_in (laid (laid [] changes) ((0x62 ∷ [], None) ∷ []))) ≡ x → F (texts_of empty) (texts_of first_state) (texts_of second_state) ≡ x
  on_line F x rising sorted e =
      ap (λ texts. F texts (texts_of first_state) (texts_of second_state)) texts_of-empty
      ∙ ap₂ (F []) (texts-told first_state _ (first-pairs rising)) (texts-told second_state _ (second-pairs rising sorted))
      ∙ e

-- ---- loads

abbrev pub no_changes : Changes
no_changes = empty

pub entries-no_changes : entries no_changes ≡ []
entries-no_changes = nil_from_length (entries no_changes) (sym (len-entries no_changes) ∙ len-empty (slice_cmp nat_cmp) (Option (List ℕ)))

abbrev lookup_of : (key : List ℕ) → (pairs later : List Pair) → (changes : List Change) → ℕ
lookup_of key pairs later changes =
    length (filter (λ place. leads_to (nibbles key ∷ paths_of changes) place || (not (length place == 0) && is_branch (subtree_of pairs (above place)) && not (leads_to (paths_of changes) place) && all_stand_below (rows_of_pairs later) (above place) place)) (places (subtree_of pairs [])))
    + cond (is_some (find (slice_cmp nat_cmp) key pairs)) 1 0

-- what a lookup loads is told by the pairs of its state
pub lookup-told : (state : State) (pairs : List Pair) (key : List ℕ) (n : ℕ) → entries state ≡ pairs → lookup_of key pairs pairs [] ≡ n → lookup_loads state key ≡ n
unfolding is_touched remains_alone subtree_at rows_of after after_each
lookup-told state pairs key n e is =
    ap (λ o. length (touched_places state (key ∷ []) no_changes) + cond (is_some o) 1 0) (get-entries state key)
    ∙ ap (λ (changes : List Change). lookup_of key (entries state) (entries (after_each state changes)) changes) entries-no_changes
    ∙ ap (λ ps. lookup_of key ps ps []) e
    ∙ is

-- and what a batch loads by those of its state
pub batch-told : (state : State) (pairs : List Pair) (changes : List Change) (n : ℕ) → entries state ≡ pairs → T (is_sorted (slice_cmp nat_cmp) pairs) → T (is_sorted (slice_cmp nat_cmp) changes) → length (touched_of pairs (laid pairs changes) changes) ≡ n → batch_loads state (from_sorted changes) ≡ n
batch-told state pairs changes n e sorted rising is =
    ap length (touched-told state (from_sorted changes))
    ∙ ap (λ cs. length (touched_of (entries state) (entries (after state (from_sorted changes))) cs)) (entries-from_sorted (slice_cmp nat_cmp) changes rising)
    ∙ ap₂ (λ ps later. length (touched_of ps later changes)) e (entries-laid state pairs changes e sorted rising)
    ∙ is

-- The usage takes one text, where there are pairs.
pub usage-told : (state : State) (pairs : List Pair) (n : ℕ) → entries state ≡ pairs → cond (length pairs == 0) 0 1 ≡ n → usage_loads state ≡ n
usage-told state pairs n e is = ap (λ m. cond (m == 0) 0 1) (len-entries state ∙ ap length e) ∙ is

-- ---- clashes

-- what a batch makes is told by the pairs of its state
pub made-pairs : (state : State) (pairs : List Pair) (changes : List Change) → entries state ≡ pairs → T (is_sorted (slice_cmp nat_cmp) pairs) → T (is_sorted (slice_cmp nat_cmp) changes) → made_texts state (from_sorted changes) ≡ made_of pairs (laid pairs changes) changes
made-pairs state pairs changes e sorted rising =
    made-told state (from_sorted changes)
    ∙ ap (λ cs. made_of (entries state) (entries (after state (from_sorted changes))) cs) (entries-from_sorted (slice_cmp nat_cmp) changes rising)
    ∙ ap₂ (λ ps later. made_of ps later changes) e (entries-laid state pairs changes e sorted rising)
