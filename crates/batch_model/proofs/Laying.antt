-- A batch laid over a state: what each key has afterwards.
use Rattle.std.proofs.Common.{◌≡◌, ℕ, Bool, true, false, cond, T, List, [], ◌∷◌, Option, None, Some, refl, sym, ◌∙◌, ap, subst, Ordering, Less, Equal, Greater, nat_cmp}
use Rattle.std.specs.List.{AllByRecursion}
use Rattle.std.specs.Ordering.{is_eq, is_lt, eq_by_cmp}
use Rattle.std.specs.Cmp.{Equal-is, tied_itself}
use Rattle.std.specs.Cmp.Lexicographic.{slice_cmp, nat_list_cmp_total}
use Rattle.std.specs.FinMap.{FinMap, entries, entries_sorted, get, get-entries, get-insert, get-remove, find, is_sorted, slice_cmp-IsAntisymmetric, nat_cmp-IsAntisymmetric}
use Rattle.std.specs.FinMap.Entries.{below_all}
use Rattle.std.proofs.lemmas.Bool.{false≢true}
use Rattle.trie_model.specs.State.{State, IsState, IsPair}
use Rattle.trie_model.proofs.Order.{first_test, second_test}
use Rattle.batch_model.specs.Changes.{Changes, Change, after_change, after_each, after, decided, AreChanges, IsChange}

-- ---- keys

-- whether two keys are the same
abbrev pub ties : List ℕ → List ℕ → Bool
ties q key = eq_by_cmp (slice_cmp nat_cmp) q key

pub same_key : (q key : List ℕ) → slice_cmp nat_cmp q key ≡ Equal → q ≡ key
same_key = slice_cmp-IsAntisymmetric nat_cmp-IsAntisymmetric

pub same_of_ties : (q key : List ℕ) → ties q key ≡ true → q ≡ key
same_of_ties q key e = same_key q key ((Equal-is (slice_cmp nat_cmp q key)).0 e)

tied_not_less : (o : Ordering) → is_eq o ≡ true → T (is_lt o) → ⊥
tied_not_less Less e h = false≢true e
tied_not_less Equal e h = h
tied_not_less Greater e h = h

-- a key that stands before all keys of a list is not among them
module _ {X : Type 0} where
  pub find_before : (q : List ℕ) (es : List (List ℕ × X)) → T (below_all (slice_cmp nat_cmp) q es) → find (slice_cmp nat_cmp) q es ≡ None
  find_before q [] h = refl
  find_before q (e ∷ es) h =
      elim (ties q e.0) as (λ b. ties q e.0 ≡ b → cond b (Some e.1) (find (slice_cmp nat_cmp) q es) ≡ None) [
        | true ↦ λ t. absurd (tied_not_less _ t (first_test _ _ h))
        | false ↦ λ t. find_before q es (second_test _ _ h)
      ] refl

  -- what holds of each key with the value that is found at it holds of each entry, and the other way round
  all_of_found : (P : List ℕ × X → Type 0) (es : List (List ℕ × X)) → T (is_sorted (slice_cmp nat_cmp) es) → ((q : List ℕ) (v : X) → find (slice_cmp nat_cmp) q es ≡ Some v → P (q, v)) → AllByRecursion P es
  all_of_found P [] h each = tt
  all_of_found P (e ∷ es) h each = (
    each e.0 e.1 (ap (λ r. cond (is_eq r) (Some e.1) (find (slice_cmp nat_cmp) e.0 es)) (tied_itself nat_list_cmp_total e.0)),
    all_of_found P es (second_test _ _ h) (λ q v found. each q v (
        elim (ties q e.0) as (λ b. ties q e.0 ≡ b → cond b (Some e.1) (find (slice_cmp nat_cmp) q es) ≡ Some v) [
          | true ↦ λ t.
              let same : q ≡ e.0 = same_of_ties q e.0 t in
              let none : find (slice_cmp nat_cmp) q es ≡ None = subst (λ (k : List ℕ). find (slice_cmp nat_cmp) k es ≡ None) (sym same) (find_before e.0 es (first_test _ _ h)) in
              absurd (not_found v (sym none ∙ found))
          | false ↦ λ t. found
        ] refl)),
  )
    where
      not_found : (v : X) → None ≡ Some v → ⊥
      not_found v e = cc

  found_of_all : (P : List ℕ × X → Type 0) (es : List (List ℕ × X)) → AllByRecursion P es → (q : List ℕ) (v : X) → find (slice_cmp nat_cmp) q es ≡ Some v → P (q, v)
  found_of_all P [] all q v found = cc
  found_of_all P (e ∷ es) all q v found =
      elim (ties q e.0) as (λ b. ties q e.0 ≡ b → cond b (Some e.1) (find (slice_cmp nat_cmp) q es) ≡ Some v → P (q, v)) [
        | true ↦ λ t is.
            let key : e.0 ≡ q = sym (same_of_ties q e.0 t) in
            let value : e.1 ≡ v = cc in
            subst P (λ i. (key i, value i)) all.0
        | false ↦ λ t is. found_of_all P es all.1 q v is
      ] refl found

  pub all_of_get : (P : List ℕ × X → Type 0) (m : FinMap (slice_cmp nat_cmp) X) → ((q : List ℕ) (v : X) → get m q ≡ Some v → P (q, v)) → AllByRecursion P (entries m)
  all_of_get P m each = all_of_found P (entries m) (entries_sorted m) (λ q v found. each q v (get-entries m q ∙ found))

  pub get_of_all : (P : List ℕ × X → Type 0) (m : FinMap (slice_cmp nat_cmp) X) → AllByRecursion P (entries m) → (q : List ℕ) (v : X) → get m q ≡ Some v → P (q, v)
  get_of_all P m all q v is = found_of_all P (entries m) all q v (sym (get-entries m q) ∙ is)

-- ---- what a key has after a batch

pub get-after_change : (state : State) (change : Change) (q : List ℕ) → get (after_change state change) q ≡ cond (ties q change.0) change.1 (get state q)
unfolding after_change
get-after_change state (key, None) q = get-remove nat_list_cmp_total state key q
get-after_change state (key, Some value) q = get-insert nat_list_cmp_total state key value q

get-after_each : (state : State) (changes : List Change) (q : List ℕ) → T (is_sorted (slice_cmp nat_cmp) changes) → get (after_each state changes) q ≡ decided (find (slice_cmp nat_cmp) q changes) (get state q)
unfolding after_each
get-after_each state [] q h = refl
get-after_each state (change ∷ changes) q h =
    get-after_each (after_change state change) changes q (second_test _ _ h)
    ∙ ap (decided (find (slice_cmp nat_cmp) q changes)) (get-after_change state change q)
    ∙ elim (ties q change.0) as (λ b. ties q change.0 ≡ b → decided (find (slice_cmp nat_cmp) q changes) (cond b change.1 (get state q)) ≡ decided (cond b (Some change.1) (find (slice_cmp nat_cmp) q changes)) (get state q)) [
      | true ↦ λ t.
          let same : q ≡ change.0 = same_of_ties q change.0 t in
          let none : find (slice_cmp nat_cmp) q changes ≡ None = subst (λ (k : List ℕ). find (slice_cmp nat_cmp) k changes ≡ None) (sym same) (find_before change.0 changes (first_test _ _ h)) in
          ap (λ (o : Option (Option (List ℕ))). decided o change.1) none
      | false ↦ λ t. refl
    ] refl

pub get-after : (state : State) (changes : Changes) (q : List ℕ) → get (after state changes) q ≡ decided (get changes q) (get state q)
unfolding after
get-after state changes q =
    get-after_each state (entries changes) q (entries_sorted changes)
    ∙ ap (λ (o : Option (Option (List ℕ))). decided o (get state q)) (sym (get-entries changes q))

-- Keys and values stay within their limits.
pub pairs-after : (state : State) (changes : Changes) → IsState state → AreChanges changes → AllByRecursion IsPair (entries (after state changes))
pairs-after state changes is are =
    all_of_get IsPair (after state changes) (λ q v found. go q v (get changes q) refl (sym (get-after state changes q) ∙ found))
  where
    former : (q v : List ℕ) → get state q ≡ Some v → IsPair (q, v)
    former q v found = get_of_all IsPair state is.pairs q v found

    go : (q v : List ℕ) (o : Option (Option (List ℕ))) → get changes q ≡ o → decided o (get state q) ≡ Some v → IsPair (q, v)
    go q v None e found = former q v found
    go q v (Some value) e found =
        let change : IsChange (q, Some v) = get_of_all IsChange changes are.each q (Some v) (e ∙ ap Some found) in
        record { key = change.key; key_length = change.key_length; value = change.value; value_length = change.value_length }
