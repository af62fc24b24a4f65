-- Members of a list that is filtered, and of a mapped one where two functions agree on them.
use Rattle.std.proofs.Common.{◌≡◌, Bool, true, false, cond, List, [], ◌∷◌, map, Option, None, Some, refl, sym, ◌∙◌, ap, ap₂, subst, inl, inr}
use Rattle.std.specs.List.{filter, filter_map, cons_option}
use Rattle.trie_model.proofs.Members.{IsIn}

pub in_filter : {X : Type 0} (p : X → Bool) (xs : List X) (x : X) → IsIn xs x → p x ≡ true → IsIn (filter p xs) x
in_filter p [] x h t = absurd h
in_filter p (y ∷ ys) x (inl e) t =
    let test : p y ≡ true = ap p e ∙ t in
    subst (λ b. IsIn (cond b (y ∷ filter p ys) (filter p ys)) x) (sym test) (inl e)
in_filter p (y ∷ ys) x (inr h) t =
    elim (p y) as (λ b. IsIn (cond b (y ∷ filter p ys) (filter p ys)) x) [
      | true ↦ inr (in_filter p ys x h t)
      | false ↦ in_filter p ys x h t
    ]

pub in_filter_from : {X : Type 0} (p : X → Bool) (xs : List X) (x : X) → IsIn (filter p xs) x → IsIn xs x × (p x ≡ true)
in_filter_from p [] x h = absurd h
in_filter_from p (y ∷ ys) x h = go (p y) refl (in_filter_from p ys x) h
  where
    go : (b : Bool) → p y ≡ b → (IsIn (filter p ys) x → IsIn ys x × (p x ≡ true)) → IsIn (cond b (y ∷ filter p ys) (filter p ys)) x → IsIn (y ∷ ys) x × (p x ≡ true)
    go true t further (inl e) = (inl e, sym (ap p e) ∙ t)
    go true t further (inr k) =
        let r = further k in
        (inr r.0, r.1)
    go false t further k =
        let r = further k in
        (inr r.0, r.1)

pub map-agree_in : {X Y : Type 0} (f g : X → Y) (xs : List X) → ((x : X) → IsIn xs x → f x ≡ g x) → map f xs ≡ map g xs
map-agree_in f g [] same = refl
map-agree_in {Y = Y} f g (x ∷ xs) same = ap₂ (λ (y : Y) (ys : List Y). y ∷ ys) (same x (inl refl)) (map-agree_in f g xs (λ y i. same y (inr i)))

pub in_filter_map_from : {X Y : Type 0} (f : X → Option Y) (xs : List X) (y : Y) → IsIn (filter_map f xs) y → (x : X) × IsIn xs x × (f x ≡ Some y)
in_filter_map_from f [] y h = absurd h
in_filter_map_from {X} {Y} f (x ∷ xs) y h = go (f x) refl (in_filter_map_from f xs y) h
  where
    go : (o : Option Y) → f x ≡ o → (IsIn (filter_map f xs) y → (z : X) × IsIn xs z × (f z ≡ Some y)) → IsIn (cons_option o (filter_map f xs)) y → (z : X) × IsIn (x ∷ xs) z × (f z ≡ Some y)
    go None e further k =
        let r = further k in
        (r.0, inr r.1, r.2)
    go (Some v) e further (inl same) = (x, inl refl, e ∙ ap Some same)
    go (Some v) e further (inr k) =
        let r = further k in
        (r.0, inr r.1, r.2)
