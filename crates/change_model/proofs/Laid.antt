-- Rows with changes laid over, told by what stands at each path.
use Rattle.std.proofs.Common.{◌≡◌, ℕ, ◌*◌, ◌+◌, ◌/◌, ◌%◌, Bool, true, false, if◌then◌else◌, List, [], ◌∷◌, ◌++◌, map, Option, None, Some, refl, sym, ◌∙◌, ap, ap₂, subst, arith, nat_cmp}
use Rattle.std.specs.Prelude.{nat_eq}
use Rattle.std.specs.List.{filter_map, cons_option}
use Rattle.std.specs.Option.{option_map}
use Rattle.std.specs.Ordering.{is_eq}
use Rattle.std.specs.Cmp.Lexicographic.{slice_cmp, pointwise, nat_list_cmp_total}
use Rattle.std.specs.Cmp.{tied_itself}
use Rattle.std.specs.FinMap.{FinMap, entries, get, get-entries, find}
use Rattle.std.proofs.lemmas.Bool.{false_from_ne_true}
use Rattle.std.proofs.lemmas.Slice.Eq.{bytes_eq-Decides}
use Rattle.byte_model.specs.Nibbles.{nibbles}
use Rattle.trie_model.specs.State.{State, Row, rows_of}
use Rattle.trie_model.specs.Tree.{rest_behind, below}
use Rattle.trie_model.proofs.Rests.{rest_behind-prefix, prefix_and_rest}
use Rattle.visit_model.specs.Keys.{key_of}
use Rattle.batch_model.specs.Changes.{Changes, Change, after, change_rows, decided, found_at}
use Rattle.change_model.specs.Visits.{changes_behind}
use Rattle.batch_model.proofs.Laying.{ties, same_of_ties, get-after}

-- ---- paths that are the same

abbrev pub same_path : List ℕ → List ℕ → Bool
same_path p q = pointwise nat_eq p q

pub path_of_test : (p q : List ℕ) → same_path p q ≡ true → p ≡ q
path_of_test p q e = (bytes_eq-Decides p q).0 e

pub test_of_path : (p q : List ℕ) → p ≡ q → same_path p q ≡ true
test_of_path p q e = (bytes_eq-Decides p q).1 e

-- two tests that hold together are the same
pub same_tests : (a b : Bool) → (a ≡ true → b ≡ true) → (b ≡ true → a ≡ true) → a ≡ b
same_tests true b f g = sym (f refl)
same_tests false true f g = g refl
same_tests false false f g = refl

test_behind : (p q path rest : List ℕ) → rest_behind p path ≡ Some rest → same_path path (p ++ q) ≡ same_path rest q
test_behind p q path rest is =
    let whole : path ≡ p ++ rest = prefix_and_rest p path rest is in
    same_tests (same_path path (p ++ q)) (same_path rest q)
    (λ e. test_of_path rest q (some_same rest q (sym is ∙ ap (rest_behind p) (path_of_test path (p ++ q) e) ∙ rest_behind-prefix p q)))
    (λ e. test_of_path path (p ++ q) (whole ∙ ap (λ (r : List ℕ). p ++ r) (path_of_test rest q e)))
  where
    some_same : (r q : List ℕ) → Some r ≡ Some q → r ≡ q
    some_same r q e = cc

test_apart : (p q path : List ℕ) → rest_behind p path ≡ None → same_path path (p ++ q) ≡ false
test_apart p q path none = false_from_ne_true (same_path path (p ++ q)) (λ e. not_none q (sym none ∙ ap (rest_behind p) (path_of_test path (p ++ q) e) ∙ rest_behind-prefix p q))
  where
    not_none : (q : List ℕ) → None ≡ Some q → ⊥
    not_none q e = cc

-- ---- entries behind a path

module _ {X : Type 0} where
  abbrev entries_behind : List ℕ → List (List ℕ × X) → List (List ℕ × X)
  entries_behind prefix es = filter_map (λ e. option_map (λ rest. (rest, e.1)) (rest_behind prefix e.0)) es

  found_at-behind : (p q : List ℕ) (es : List (List ℕ × X)) → found_at q (entries_behind p es) ≡ found_at (p ++ q) es
  unfolding found_at
  found_at-behind p q [] = refl
  found_at-behind p q (e ∷ es) =
      elim (rest_behind p e.0) as (λ r. rest_behind p e.0 ≡ r → found_at q (cons_option (option_map (λ rest. (rest, e.1)) r) (entries_behind p es)) ≡ (if same_path e.0 (p ++ q) then Some e.1 else found_at (p ++ q) es)) [
        | None ↦ λ none. found_at-behind p q es ∙ sym (ap (λ b. if b then Some e.1 else found_at (p ++ q) es) (test_apart p q e.0 none))
        | Some rest ↦ λ is. ap₂ (λ (b : Bool) (o : Option X). if b then Some e.1 else o) (sym (test_behind p q e.0 rest is)) (found_at-behind p q es)
      ] refl

pub found_at-below : (p q : List ℕ) (rows : List Row) → found_at q (below p rows) ≡ found_at (p ++ q) rows
unfolding below
found_at-below p q rows = found_at-behind p q rows

pub found_at-changes_behind : (p q : List ℕ) (changes : List Change) → found_at q (changes_behind p changes) ≡ found_at (p ++ q) changes
unfolding changes_behind
found_at-changes_behind p q changes = found_at-behind p q changes

-- ---- rows with changes laid over

-- at each path the later rows have what the changes make of it, or what the rows had
pub record IsLaid (rows : List Row) (changes : List Change) (later : List Row) : Type 0 where
  pub at : (path : List ℕ) → found_at path later ≡ decided (found_at path changes) (found_at path rows)

-- and so below each path
pub laid-below : (p : List ℕ) (rows : List Row) (changes : List Change) (later : List Row) → IsLaid rows changes later → IsLaid (below p rows) (changes_behind p changes) (below p later)
laid-below p rows changes later laid = record {
  at = λ q.
      found_at-below p q later ∙ laid.at (p ++ q)
      ∙ ap₂ (λ (o : Option (Option (List ℕ))) (former : Option (List ℕ)). decided o former) (sym (found_at-changes_behind p q changes)) (sym (found_at-below p q rows));
}

-- ---- of a state

pub key_of-nibbles : (key : List ℕ) → key_of (nibbles key) ≡ key
unfolding key_of nibbles
key_of-nibbles [] = refl
key_of-nibbles (byte ∷ key) =
    let first : byte / 16 * 16 + byte % 16 ≡ byte = omega arith in
    let further = key_of-nibbles key in
    λ i. first i ∷ further i

-- the nibbles of a key are a path exactly where it is that path's key, and the path has one
key_test : (path key : List ℕ) → same_path (nibbles (key_of path)) path ≡ true → same_path (nibbles key) path ≡ ties (key_of path) key
key_test path key whole =
    same_tests (same_path (nibbles key) path) (ties (key_of path) key)
    (λ e. tied (key_of path) key (ap key_of (sym (path_of_test (nibbles key) path e)) ∙ key_of-nibbles key))
    (λ e. test_of_path (nibbles key) path (ap nibbles (sym (same_of_ties (key_of path) key e)) ∙ path_of_test (nibbles (key_of path)) path whole))
  where
    tied : (q key : List ℕ) → q ≡ key → ties q key ≡ true
    tied q key e = subst (λ (k : List ℕ). ties q k ≡ true) e (ap (λ r. is_eq r) (tied_itself nat_list_cmp_total q))

no_key_test : (path key : List ℕ) → same_path (nibbles (key_of path)) path ≡ false → same_path (nibbles key) path ≡ false
no_key_test path key none =
    false_from_ne_true (same_path (nibbles key) path) (λ e.
    let is : nibbles key ≡ path = path_of_test (nibbles key) path e in
    let key_is : key_of path ≡ key = ap key_of (sym is) ∙ key_of-nibbles key in
    no_both _ none (test_of_path (nibbles (key_of path)) path (ap nibbles key_is ∙ is)))
  where
    no_both : (b : Bool) → b ≡ false → b ≡ true → ⊥
    no_both b e f = cc

module _ {X : Type 0} where
  abbrev pub by_nibbles : List (List ℕ × X) → List (List ℕ × X)
  by_nibbles es = map (λ e. (nibbles e.0, e.1)) es

  pub found_at-nibbles : (path : List ℕ) (es : List (List ℕ × X)) → found_at path (by_nibbles es) ≡ (if same_path (nibbles (key_of path)) path then find (slice_cmp nat_cmp) (key_of path) es else None)
  unfolding found_at
  found_at-nibbles path es =
      elim (same_path (nibbles (key_of path)) path) as (λ b. same_path (nibbles (key_of path)) path ≡ b → found_at path (by_nibbles es) ≡ (if b then find (slice_cmp nat_cmp) (key_of path) es else None)) [
        | true ↦ λ whole. keyed whole es
        | false ↦ λ none. unkeyed none es
      ] refl
    where
      keyed : same_path (nibbles (key_of path)) path ≡ true → (es : List (List ℕ × X)) → found_at path (by_nibbles es) ≡ find (slice_cmp nat_cmp) (key_of path) es
      keyed whole [] = refl
      keyed whole (e ∷ es) = ap₂ (λ (b : Bool) (o : Option X). if b then Some e.1 else o) (key_test path e.0 whole) (keyed whole es)

      unkeyed : same_path (nibbles (key_of path)) path ≡ false → (es : List (List ℕ × X)) → found_at path (by_nibbles es) ≡ None
      unkeyed none [] = refl
      unkeyed none (e ∷ es) = ap₂ (λ (b : Bool) (o : Option X). if b then Some e.1 else o) (no_key_test path e.0 none) (unkeyed none es)

  pub found_at-get : (path : List ℕ) (m : FinMap (slice_cmp nat_cmp) X) → found_at path (by_nibbles (entries m)) ≡ (if same_path (nibbles (key_of path)) path then get m (key_of path) else None)
  found_at-get path m = found_at-nibbles path (entries m) ∙ ap (λ (o : Option X). if same_path (nibbles (key_of path)) path then o else None) (sym (get-entries m (key_of path)))

pub laid-after : (state : State) (changes : Changes) → IsLaid (rows_of state) (change_rows changes) (rows_of (after state changes))
unfolding rows_of
laid-after state changes = record {
  at = λ path.
      found_at-get path (after state changes)
      ∙ go path (same_path (nibbles (key_of path)) path)
      ∙ ap₂ (λ (o : Option (Option (List ℕ))) (former : Option (List ℕ)). decided o former) (sym (found_at-get path changes)) (sym (found_at-get path state));
}
  where
    go : (path : List ℕ) (b : Bool) → (if b then get (after state changes) (key_of path) else None) ≡ decided (if b then get changes (key_of path) else None) (if b then get state (key_of path) else None)
    go path true = get-after state changes (key_of path)
    go path false = refl
