-- Sums over lists.
use Rattle.std.proofs.Common.{◌≡◌, ℕ, zero, suc, ◌+◌, ◌*◌, ◌≤◌, List, [], ◌∷◌, length, inl, inr, refl, sym, ◌∙◌, ap₂, subst, arith}
use Rattle.std.proofs.lemmas.List.Sums.{sum_by-cons}
use Rattle.std.specs.List.{sum_by}
use Rattle.trie_model.proofs.Members.{IsIn}

-- of what agrees on the members
pub sum_by-in : {X : Type 0} (f g : X → ℕ) (xs : List X) → ((x : X) → IsIn xs x → f x ≡ g x) → sum_by f xs ≡ sum_by g xs
sum_by-in f g [] alike = refl
sum_by-in f g (x ∷ xs) alike =
    sum_by-cons f x xs
    ∙ ap₂ (λ (a b : ℕ). a + b) (alike x (inl refl)) (sum_by-in f g xs (λ y i. alike y (inr i)))
    ∙ sym (sum_by-cons g x xs)

-- a member adds no more than the sum
pub sum_by-member : {X : Type 0} (f : X → ℕ) (xs : List X) (x : X) → IsIn xs x → f x ≤ sum_by f xs
sum_by-member f [] x i = absurd i
sum_by-member f (y ∷ ys) x (inl e) = let whole = sum_by-cons f y ys in subst (λ z. f z ≤ sum_by f (y ∷ ys)) e (omega (arith, whole))
sum_by-member f (y ∷ ys) x (inr i) =
    let whole = sum_by-cons f y ys in
    let rest = sum_by-member f ys x i in
    omega (arith, whole, rest)

-- a sum that is not 0 has a member that adds something
pub sum_by-some : {X : Type 0} (f : X → ℕ) (xs : List X) → 1 ≤ sum_by f xs → (x : X) × IsIn xs x × (1 ≤ f x)
sum_by-some f [] some = absurd (omega (arith, some))
sum_by-some {X} f (y ∷ ys) some = go (f y) refl (λ more. sum_by-some f ys more)
  where
    go : (n : ℕ) → f y ≡ n → (1 ≤ sum_by f ys → (x : X) × IsIn ys x × (1 ≤ f x)) → (x : X) × IsIn (y ∷ ys) x × (1 ≤ f x)
    go zero e further =
        let whole = sum_by-cons f y ys in
        let rest = further (omega (arith, whole, e, some)) in
        (rest.0, inr rest.1, rest.2)
    go (suc n) e further = (y, inl refl, omega (arith, e))

-- and is bounded by the members
pub sum_by-bound : {X : Type 0} (f : X → ℕ) (most : ℕ) (xs : List X) → ((x : X) → IsIn xs x → f x ≤ most) → sum_by f xs ≤ length xs * most
sum_by-bound f most [] each = omega arith
sum_by-bound f most (y ∷ ys) each =
    let whole = sum_by-cons f y ys in
    let rest = sum_by-bound f most ys (λ x i. each x (inr i)) in
    let here = each y (inl refl) in
    let more : (1 + length ys) * most ≡ most + length ys * most = omega arith in
    omega (arith, whole, rest, here, more)
