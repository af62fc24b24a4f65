-- Membership of a list by recursion, which inductions go along, and the word that clauses have.
use Rattle.std.proofs.Common.{◌≡◌, ℕ, zero, suc, ◌<◌, List, [], ◌∷◌, ◌++◌, map, length, Contains, ◌⊎◌, inl, inr, refl, ap, subst, arith, get_or}
use Rattle.std.specs.List.{AllByRecursion}
use Rattle.std.proofs.lemmas.Bool.{cases_lt}
use Rattle.byte_model.specs.Below.{joined_below}

abbrev pub IsIn : {X : Type 0} → List X → X → Type 0
IsIn [] x = ⊥
IsIn (y ∷ ys) x = (y ≡ x) ⊎ IsIn ys x

pub contains_of_in : {X : Type 0} (xs : List X) (x : X) → IsIn xs x → Contains xs x
contains_of_in [] x h = absurd h
contains_of_in (y ∷ ys) x (inl e) = (0, omega arith, e)
contains_of_in (y ∷ ys) x (inr h) =
    let c = contains_of_in ys x h in
    (suc c.0, omega (arith, c.1), c.2)

pub in_of_contains : {X : Type 0} (xs : List X) (x : X) → Contains xs x → IsIn xs x
in_of_contains {X} xs x c = go xs c.0 c.1 c.2
  where
    go : (ys : List X) (k : ℕ) → k < length ys → get_or ys k x ≡ x → IsIn ys x
    go [] k h e = absurd (omega arith)
    go (y ∷ ys) zero h e = inl e
    go (y ∷ ys) (suc k) h e = inr (go ys k (omega arith) e)

pub in-append_left : {X : Type 0} (xs ys : List X) (x : X) → IsIn xs x → IsIn (xs ++ ys) x
in-append_left [] ys x h = absurd h
in-append_left (z ∷ xs) ys x (inl e) = inl e
in-append_left (z ∷ xs) ys x (inr h) = inr (in-append_left xs ys x h)

pub in-append_right : {X : Type 0} (xs ys : List X) (x : X) → IsIn ys x → IsIn (xs ++ ys) x
in-append_right [] ys x h = h
in-append_right (z ∷ xs) ys x h = inr (in-append_right xs ys x h)

pub in-append_cases : {X : Type 0} (xs ys : List X) (x : X) → IsIn (xs ++ ys) x → IsIn xs x ⊎ IsIn ys x
in-append_cases [] ys x h = inr h
in-append_cases (z ∷ xs) ys x (inl e) = inl (inl e)
in-append_cases (z ∷ xs) ys x (inr h) =
    elim (in-append_cases xs ys x h) [
      | inl l ↦ inl (inr l)
      | inr r ↦ inr r
    ]

pub in-map : {X Y : Type 0} (f : X → Y) (xs : List X) (x : X) → IsIn xs x → IsIn (map f xs) (f x)
in-map f [] x h = absurd h
in-map f (y ∷ ys) x (inl e) = inl (ap f e)
in-map f (y ∷ ys) x (inr h) = inr (in-map f ys x h)

-- what a mapped list has comes from an element
pub in_map_from : {X Y : Type 0} (f : X → Y) (xs : List X) (y : Y) → IsIn (map f xs) y → (x : X) × IsIn xs x × (f x ≡ y)
in_map_from f [] y h = absurd h
in_map_from f (x ∷ xs) y (inl e) = (x, inl refl, e)
in_map_from f (x ∷ xs) y (inr h) =
    let r = in_map_from f xs y h in
    (r.0, inr r.1, r.2)

pub in-joined_below : {X : Type 0} (f : ℕ → List X) (n i : ℕ) (x : X) → i < n → IsIn (f i) x → IsIn (joined_below f n) x
unfolding joined_below
in-joined_below f zero i x h m = absurd (omega arith)
in-joined_below f (suc n) i x h m =
    elim (cases_lt i n) [
      | inl l ↦ in-append_left (joined_below f n) (f n) x (in-joined_below f n i x l m)
      | inr r ↦ in-append_right (joined_below f n) (f n) x (let e : i ≡ n = omega arith in rw (← e) m)
    ]

pub in_joined_below_from : {X : Type 0} (f : ℕ → List X) (n : ℕ) (x : X) → IsIn (joined_below f n) x → (i : ℕ) × (i < n) × IsIn (f i) x
unfolding joined_below
in_joined_below_from f zero x h = absurd h
in_joined_below_from f (suc n) x h =
    elim (in-append_cases (joined_below f n) (f n) x h) [
      | inl l ↦
          let r = in_joined_below_from f n x l in
          (r.0, omega (arith, r.1), r.2)
      | inr r ↦ (n, omega arith, r)
    ]

-- ---- what holds of each element

pub all_at : {X : Type 0} (P : X → Type 0) (xs : List X) (x : X) → AllByRecursion P xs → IsIn xs x → P x
all_at P [] x all h = absurd h
all_at P (y ∷ ys) x all (inl e) = subst P e all.0
all_at P (y ∷ ys) x all (inr h) = all_at P ys x all.1 h

pub all_of : {X : Type 0} (P : X → Type 0) (xs : List X) → ((x : X) → IsIn xs x → P x) → AllByRecursion P xs
all_of P [] h = tt
all_of P (y ∷ ys) h = (h y (inl refl), all_of P ys (λ x k. h x (inr k)))
