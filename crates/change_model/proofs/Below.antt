-- What stands below a path on which no change stands is as before.
use Rattle.std.proofs.Common.{◌≡◌, ℕ, Bool, true, false, cond, ◌||◌, List, [], ◌∷◌, map, Option, None, Some, is_some, refl, sym, ◌∙◌, ap, ap₂, Equal, nat_cmp}
use Rattle.std.specs.List.{cons_option, list_any}
use Rattle.std.specs.Option.{option_map}
use Rattle.std.specs.Cmp.Lexicographic.{slice_cmp, nat_list_cmp_total}
use Rattle.std.specs.FinMap.{FinMap, entries, entries_sorted, get, get-entries, find}
use Rattle.std.specs.FinMap.Entries.{where_key, find-where_key, is_sorted-where_key, same_entries}
use Rattle.std.proofs.lemmas.Bool.{false≢true}
use Rattle.byte_model.specs.Nibbles.{nibbles}
use Rattle.trie_model.specs.State.{State, Row, rows_of}
use Rattle.trie_model.specs.Tree.{rest_behind, below}
use Rattle.trie_model.proofs.Worked.{Pair, rows_of_pairs}
use Rattle.visit_model.specs.Bounds.{has_prefix}
use Rattle.batch_model.specs.Changes.{Changes, Change, after, decided, changed_paths}
use Rattle.batch_model.proofs.Laying.{ties, same_key, same_of_ties, get-after}
use Rattle.change_model.specs.Places.{leads_to}

-- ---- keys of one kind

-- Two maps that have the same at each key that passes a test have the same entries there.
pub where_key-agree : {X : Type 0} (p : List ℕ → Bool) (m n : FinMap (slice_cmp nat_cmp) X) → ((q : List ℕ) → p q ≡ true → get m q ≡ get n q) → where_key (slice_cmp nat_cmp) p (entries m) ≡ where_key (slice_cmp nat_cmp) p (entries n)
where_key-agree {X} p m n agree =
    same_entries (slice_cmp nat_cmp) nat_list_cmp_total same_key
    (where_key (slice_cmp nat_cmp) p (entries m))
    (where_key (slice_cmp nat_cmp) p (entries n))
    (is_sorted-where_key (slice_cmp nat_cmp) p (entries m) (entries_sorted m))
    (is_sorted-where_key (slice_cmp nat_cmp) p (entries n) (entries_sorted n))
    (λ q.
    find-where_key (slice_cmp nat_cmp) p q (alike q) (entries m)
    ∙ elim (p q) as (λ b. p q ≡ b → cond b (find (slice_cmp nat_cmp) q (entries m)) None ≡ cond b (find (slice_cmp nat_cmp) q (entries n)) None) [
      | true ↦ λ t. sym (get-entries m q) ∙ agree q t ∙ get-entries n q
      | false ↦ λ t. refl
    ] refl
    ∙ sym (find-where_key (slice_cmp nat_cmp) p q (alike q) (entries n)))
  where
    alike : (q x : List ℕ) → slice_cmp nat_cmp q x ≡ Equal → p x ≡ p q
    alike q x e = ap p (sym (same_key q x e))

-- ---- rows

-- the rows below a path are those of the pairs whose keys have it
below-where_key : (place : List ℕ) (pairs : List Pair) → below place (rows_of_pairs (where_key (slice_cmp nat_cmp) (λ key. has_prefix (nibbles key) place) pairs)) ≡ below place (rows_of_pairs pairs)
unfolding below
below-where_key place [] = refl
below-where_key place (pair ∷ pairs) =
    let kept : List Pair = where_key (slice_cmp nat_cmp) (λ key. has_prefix (nibbles key) place) pairs in
    elim (rest_behind place (nibbles pair.0)) as (λ r. rest_behind place (nibbles pair.0) ≡ r → below place (rows_of_pairs (cond (is_some r) (pair ∷ kept) kept)) ≡ cons_option (option_map (λ rest. (rest, pair.1)) r) (below place (rows_of_pairs pairs))) [
      | None ↦ λ e. below-where_key place pairs
      | Some rest ↦ λ e. ap₂ (λ (r : Option (List ℕ)) (rows : List Row). cons_option (option_map (λ rest. (rest, pair.1)) r) rows) e (below-where_key place pairs)
    ] refl

pub below-agree : (place : List ℕ) (m n : State) → ((q : List ℕ) → has_prefix (nibbles q) place ≡ true → get m q ≡ get n q) → below place (rows_of m) ≡ below place (rows_of n)
unfolding rows_of
below-agree place m n agree =
    sym (below-where_key place (entries m))
    ∙ ap (λ (pairs : List Pair). below place (rows_of_pairs pairs)) (where_key-agree (λ key. has_prefix (nibbles key) place) m n agree)
    ∙ below-where_key place (entries n)

-- ---- what no change leads to

not_changed : (changes : List Change) (place q : List ℕ) → leads_to (map (λ change. nibbles change.0) changes) place ≡ false → has_prefix (nibbles q) place ≡ true → find (slice_cmp nat_cmp) q changes ≡ None
unfolding leads_to
not_changed [] place q none h = refl
not_changed (change ∷ changes) place q none h =
    elim (has_prefix (nibbles change.0) place) as (λ b. has_prefix (nibbles change.0) place ≡ b → (b || list_any (λ path. has_prefix path place) (map (λ change. nibbles change.0) changes)) ≡ false → cond (ties q change.0) (Some change.1) (find (slice_cmp nat_cmp) q changes) ≡ None) [
      | true ↦ λ t e. absurd (false≢true (sym e))
      | false ↦ λ t e. elim (ties q change.0) as (λ b. ties q change.0 ≡ b → cond b (Some change.1) (find (slice_cmp nat_cmp) q changes) ≡ None) [
        | true ↦ λ tie. absurd (false≢true (sym t ∙ ap (λ (key : List ℕ). has_prefix (nibbles key) place) (sym (same_of_ties q change.0 tie)) ∙ h))
        | false ↦ λ tie. not_changed changes place q e h
      ] refl
    ] refl none

-- Below a path on which no change stands, the rows stay.
pub below-after : (state : State) (changes : Changes) (place : List ℕ) → leads_to (changed_paths changes) place ≡ false → below place (rows_of (after state changes)) ≡ below place (rows_of state)
below-after state changes place none =
    below-agree place (after state changes) state (λ q h.
    get-after state changes q
    ∙ ap (λ (o : Option (Option (List ℕ))). decided o (get state q)) (get-entries changes q ∙ not_changed (entries changes) place q none h))
