-- Lists joined over the numbers below a bound: what a test keeps of them, and where all but one are empty.
use Rattle.std.proofs.Common.{◌≡◌, ℕ, zero, suc, Bool, List, ◌++◌, filter, refl, ◌∙◌, ap}
use Rattle.std.specs.List.{flat_map}
use Rattle.std.proofs.lemmas.Grind.{flat_map-append}
use Rattle.std.proofs.lemmas.List.Elements.{filter-append}
use Rattle.byte_model.specs.Below.{joined_below}

pub filter-joined_below : {X : Type 0} (test : X → Bool) (f : ℕ → List X) (n : ℕ) → filter test (joined_below f n) ≡ joined_below (λ x. filter test (f x)) n
unfolding joined_below
filter-joined_below test f zero = refl
filter-joined_below {X} test f (suc n) = filter-append test (joined_below f n) (f n) ∙ ap (λ (a : List X). a ++ filter test (f n)) (filter-joined_below test f n)

pub flat_map-joined_below : {X Y : Type 0} (h : X → List Y) (f : ℕ → List X) (n : ℕ) → flat_map h (joined_below f n) ≡ joined_below (λ x. flat_map h (f x)) n
unfolding joined_below
flat_map-joined_below h f zero = refl
flat_map-joined_below {Y = Y} h f (suc n) = flat_map-append h (joined_below f n) (f n) ∙ ap (λ (a : List Y). a ++ flat_map h (f n)) (flat_map-joined_below h f n)
