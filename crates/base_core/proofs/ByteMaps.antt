-- Maps by byte strings, such as digests and keys, at the one that a change names and at every other.
use Rattle.std.proofs.Common.{Ordering, Vec, ◌≡◌, ◌≢◌, Bool, true, false, cond, List, ℕ, None, Some, ◌⊎◌, inl, inr, ⊎_elim, refl, sym, ap, ◌∙◌}
use Rattle.std.specs.Ordering.{nat_cmp, eq_by_cmp}
use Rattle.std.specs.Cmp.Lexicographic.{slice_cmp, nat_list_cmp_total, texts_ties, bytes_decides, pointwise}
use Rattle.std.specs.Prelude.{nat_eq, not}
use Rattle.std.proofs.lemmas.Bool.{true≢false, not-false}
use Rattle.std.proofs.lemmas.Map.Lookups.{exact_bytes}
use Rattle.std.specs.FinMap.{FinMap, get, insert, remove, get-insert, get-remove, same_map}
use Rattle.std.specs.declared.alloc.Global.{Global}

abbrev pub order : List ℕ → List ℕ → Ordering
order = slice_cmp nat_cmp

abbrev pub by_items : Vec ℕ Global → Vec ℕ Global → Ordering
by_items x y = slice_cmp nat_cmp x.items y.items

abbrev pub is_same : List ℕ → List ℕ → Bool
is_same = eq_by_cmp order

pub is_same-itself : (q : List ℕ) → is_same q q ≡ true
is_same-itself q = sym (texts_ties q q) ∙ (bytes_decides q q).1 refl

pub same_from : (q d : List ℕ) → is_same q d ≡ true → q ≡ d
same_from q d e = (bytes_decides q d).0 (texts_ties q d ∙ e)

-- two of them are one, or they are told apart
pub same_or_other : (q d : List ℕ) → (q ≡ d) ⊎ ((q ≢ d) × (is_same q d ≡ false))
same_or_other q d = by_test (is_same q d) refl
  where
    by_test : (b : Bool) → is_same q d ≡ b → (q ≡ d) ⊎ ((q ≢ d) × (is_same q d ≡ false))
    by_test true e = inl (same_from q d e)
    by_test false e = inr (λ same. absurd (cc (e, sym (is_same-itself q), ap (is_same q) same)), e)

pub other_is : (q d : List ℕ) → (q ≢ d) → is_same q d ≡ false
other_is q d n = by_test (is_same q d) refl
  where
    by_test : (b : Bool) → is_same q d ≡ b → is_same q d ≡ false
    by_test true e = absurd (n (same_from q d e))
    by_test false e = e

-- what a comparison in the code tells
pub apart_by_eq : (a b : List ℕ) (r : Bool) → r ≡ false → r ≡ pointwise nat_eq a b → a ≢ b
apart_by_eq a b r e is same = true≢false (sym ((bytes_decides a b).1 same) ∙ sym is ∙ e)

pub apart_by_ne : (a b : List ℕ) (r : Bool) → r ≡ true → r ≡ not (pointwise nat_eq a b) → a ≢ b
apart_by_ne a b r e is same = true≢false (sym e ∙ is ∙ ap not ((bytes_decides a b).1 same))

pub same_by_ne : (a b : List ℕ) (r : Bool) → r ≡ false → r ≡ not (pointwise nat_eq a b) → a ≡ b
same_by_ne a b r e is = (bytes_decides a b).0 (not-false _ (sym is ∙ e))

module _ {X : Type 0} (m : FinMap order X) (d : List ℕ) where
  pub get-inserted : (x : X) → get (insert m d x) d ≡ Some x
  get-inserted x = get-insert nat_list_cmp_total m d x d ∙ ap (λ b. cond b (Some x) (get m d)) (is_same-itself d)

  pub get-inserted_elsewhere : (x : X) (q : List ℕ) → (q ≢ d) → get (insert m d x) q ≡ get m q
  get-inserted_elsewhere x q n = get-insert nat_list_cmp_total m d x q ∙ ap (λ b. cond b (Some x) (get m q)) (other_is q d n)

  pub get-removed : get (remove m d) d ≡ None
  get-removed = get-remove nat_list_cmp_total m d d ∙ ap (λ b. cond b None (get m d)) (is_same-itself d)

  pub get-removed_elsewhere : (q : List ℕ) → (q ≢ d) → get (remove m d) q ≡ get m q
  get-removed_elsewhere q n = get-remove nat_list_cmp_total m d q ∙ ap (λ b. cond b None (get m q)) (other_is q d n)

  -- what is there may be put there again, and what is not there may be taken
  pub insert-again : (x : X) → get m d ≡ Some x → insert m d x ≡ m
  insert-again x e = same_map nat_list_cmp_total exact_bytes _ _ (λ q.
      ⊎_elim (λ (same : q ≡ d). ap (get (insert m d x)) same ∙ get-inserted x ∙ sym e ∙ ap (get m) (sym same)) (λ other. get-inserted_elsewhere x q other.0) (same_or_other q d))

  pub remove-absent : get m d ≡ None → remove m d ≡ m
  remove-absent e = same_map nat_list_cmp_total exact_bytes _ _ (λ q.
      ⊎_elim (λ (same : q ≡ d). ap (get (remove m d)) same ∙ get-removed ∙ sym e ∙ ap (get m) (sym same)) (λ other. get-removed_elsewhere q other.0) (same_or_other q d))
