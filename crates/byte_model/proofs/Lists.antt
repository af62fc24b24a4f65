-- Lists that are equal, and what holds of each element of a list.
use Rattle.std.proofs.Common.{◌≡◌, ◌≢◌, ℕ, zero, suc, List, [], ◌∷◌, ◌++◌, take, drop}
use Rattle.std.specs.List.{AllByRecursion}

pub first_same : {X : Type 0} {x y : X} {xs ys : List X} → x ∷ xs ≡ y ∷ ys → x ≡ y
first_same e = cc

pub rest_same : {X : Type 0} {x y : X} {xs ys : List X} → x ∷ xs ≡ y ∷ ys → xs ≡ ys
rest_same e = cc

pub AllByRecursion-weaker : {X : Type 0} (P Q : X → Type 0) → ((x : X) → P x → Q x) → (xs : List X) → AllByRecursion P xs → AllByRecursion Q xs
AllByRecursion-weaker P Q weaker [] h = tt
AllByRecursion-weaker P Q weaker (x ∷ xs) h = (weaker x h.0, AllByRecursion-weaker P Q weaker xs h.1)

pub AllByRecursion-append : {X : Type 0} (P : X → Type 0) (xs ys : List X) → AllByRecursion P xs → AllByRecursion P ys → AllByRecursion P (xs ++ ys)
AllByRecursion-append P [] ys h k = k
AllByRecursion-append P (x ∷ xs) ys h k = (h.0, AllByRecursion-append P xs ys h.1 k)

pub AllByRecursion-take : {X : Type 0} (P : X → Type 0) (n : ℕ) (xs : List X) → AllByRecursion P xs → AllByRecursion P (take n xs)
AllByRecursion-take P zero xs h = tt
AllByRecursion-take P (suc n) [] h = tt
AllByRecursion-take P (suc n) (x ∷ xs) h = (h.0, AllByRecursion-take P n xs h.1)

pub AllByRecursion-drop : {X : Type 0} (P : X → Type 0) (n : ℕ) (xs : List X) → AllByRecursion P xs → AllByRecursion P (drop n xs)
AllByRecursion-drop P zero xs h = h
AllByRecursion-drop P (suc n) [] h = tt
AllByRecursion-drop P (suc n) (x ∷ xs) h = AllByRecursion-drop P n xs h.1

pub some_items : {X : Type 0} (x : X) (xs : List X) → x ∷ xs ≢ []
some_items x xs e = cc
