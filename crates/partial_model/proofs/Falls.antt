-- The first text that is not above the one before it.
use Rattle.std.proofs.Common.{◌≡◌, ◌≢◌, ℕ, ◌+◌, Bool, true, false, if◌then◌else◌, List, [], ◌∷◌, ◌++◌, length, None, Some, MatchOption, refl, sym, ◌∙◌, ap, subst, arith, append_assoc, length-append}
use Rattle.std.specs.List.{AllByRecursion}
use Rattle.std.specs.List.Sorted.{IsStrictlySortedBy}
use Rattle.std.specs.declared.cmp.Ordering.{Ordering}
use Rattle.std.specs.declared.cmp.Ordering.TheVariants.{Less, Equal, Greater}
use Rattle.std.specs.Ordering.{is_lt}
use Rattle.std.specs.Cmp.Lexicographic.{nat_list_cmp_total}
use Rattle.trie_model.proofs.Order.{Before}
use Rattle.partial_model.specs.Texts.{Rise, is_above, fall_behind, first_fall, FallsAt}

pub less_from : (o : Ordering) → is_lt o ≡ true → o ≡ Less
less_from Less e = refl
less_from Equal e = cc
less_from Greater e = cc

pub not_less_from : (o : Ordering) → is_lt o ≡ false → o ≢ Less
not_less_from Less e = cc
not_less_from Equal e = λ less. cc
not_less_from Greater e = λ less. cc

all_more : (P : List ℕ → Type 0) (xs : List (List ℕ)) (e t : List ℕ) → (P e → P t) → AllByRecursion P (xs ++ e ∷ []) → AllByRecursion P (xs ++ e ∷ t ∷ [])
all_more P [] e t more h = (h.0, (more h.0, tt))
all_more P (x ∷ xs) e t more h = (h.0, all_more P xs e t more h.1)

-- one more text, above the last
pub rise_more : (xs : List (List ℕ)) (e t : List ℕ) → Before e t → Rise (xs ++ e ∷ []) → Rise (xs ++ e ∷ t ∷ [])
unfolding IsStrictlySortedBy
rise_more [] e t above h = ((above, tt), (tt, tt))
rise_more (x ∷ xs) e t above h = (all_more (λ y. Before x y) xs e t (λ b. nat_list_cmp_total.trans x e t b above) h.0, rise_more xs e t above h.1)

rise_behind : (front : List (List ℕ)) (earlier : List ℕ) (place : ℕ) (texts : List (List ℕ)) → place ≡ length front + 1 → Rise (front ++ earlier ∷ []) → MatchOption (fall_behind earlier place texts) (Rise (front ++ earlier ∷ texts)) (FallsAt (front ++ earlier ∷ texts))
unfolding fall_behind
rise_behind front earlier place [] here rise = rise
rise_behind front earlier place (t ∷ ts) here rise =
    let whole : (front ++ earlier ∷ []) ++ t ∷ ts ≡ front ++ earlier ∷ t ∷ ts = append_assoc front (earlier ∷ []) (t ∷ ts) in
    let P : Bool → Type 0 = λ b. MatchOption (if b then fall_behind t (place + 1) ts else Some place) (Rise (front ++ earlier ∷ t ∷ ts)) (FallsAt (front ++ earlier ∷ t ∷ ts)) in
    elim (is_above t earlier) as (λ b. is_above t earlier ≡ b → P b) [
      | true ↦ λ e. subst (λ (all : List (List ℕ)). MatchOption (fall_behind t (place + 1) ts) (Rise all) (FallsAt all)) whole
          (rise_behind (front ++ earlier ∷ []) t (place + 1) ts (omega (arith, length-append front (earlier ∷ [])))
          (subst Rise (sym (append_assoc front (earlier ∷ []) (t ∷ []))) (rise_more front earlier t (less_from _ e) rise)))
      | false ↦ λ e. record { front = front; earlier = earlier; text = t; rest = ts; parts = refl; here = here; rising = rise; falls = not_less_from _ e }
    ] refl

pub falls_found : (texts : List (List ℕ)) → MatchOption (first_fall texts) (Rise texts) (FallsAt texts)
unfolding IsStrictlySortedBy
falls_found [] = tt
falls_found (t ∷ ts) = rise_behind [] t 1 ts (omega arith) (tt, tt)

no_fall_behind : (earlier : List ℕ) (place : ℕ) (ts : List (List ℕ)) → Rise (earlier ∷ ts) → fall_behind earlier place ts ≡ None
unfolding fall_behind IsStrictlySortedBy
no_fall_behind earlier place [] rise = refl
no_fall_behind earlier place (t ∷ ts) rise = ap (λ o. if is_lt o then fall_behind t (place + 1) ts else Some place) rise.0.0 ∙ no_fall_behind t (place + 1) ts rise.1

pub no_fall : (texts : List (List ℕ)) → Rise texts → first_fall texts ≡ None
no_fall [] rise = refl
no_fall (t ∷ ts) rise = no_fall_behind t 1 ts rise
