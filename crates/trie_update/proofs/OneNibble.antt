-- Visits and sums over the nibbles, where only one of them has any.
use Rattle.std.proofs.Common.{◌≡◌, ◌≢◌, ℕ, zero, suc, ◌<◌, List, [], ◌++◌, Option, None, Some, inl, inr, refl, sym, ap, ap₂, ◌∙◌, arith}
use Rattle.std.proofs.lemmas.Bool.{cases_lt}
use Rattle.std.proofs.lemmas.List.{append-nil}
use Rattle.byte_model.specs.Below.{sum_below}
use Rattle.byte_model.proofs.Below.{sum_below-none}
use Rattle.change_model.specs.Visits.{Visits, Refusal, no_visits, and_then, before, visits_below}
use Rattle.trie_update.proofs.Carrying.{before-done, before-stopped}

abbrev both : Visits → Visits → Visits
both a b = before a b

pub none-before : (v : Visits) → before no_visits v ≡ v
unfolding and_then
none-before v = refl

pub before-none : (v : Visits) → before v no_visits ≡ v
before-none v = go v.refusal refl
  where
    go : (o : Option Refusal) → v.refusal ≡ o → before v no_visits ≡ v
    go None e =
        let end : (record { digests = v.digests ++ []; refusal = None }) ≡ v = ap₂ (λ (ds : List (List ℕ)) (o : Option Refusal). record { digests = ds; refusal = o }) (append-nil v.digests) (sym e) in
        before-done v no_visits e ∙ end
    go (Some why) e =
        let end : (record { digests = v.digests; refusal = Some why }) ≡ v = ap (λ (o : Option Refusal). record { digests = v.digests; refusal = o }) (sym e) in
        before-stopped v no_visits why e ∙ end

pub visits_below-none : (f : ℕ → Visits) (n : ℕ) → ((y : ℕ) → y < n → f y ≡ no_visits) → visits_below f n ≡ no_visits
unfolding visits_below
visits_below-none f zero h = refl
visits_below-none f (suc n) h = ap₂ both (visits_below-none f n (λ y l. h y (omega arith))) (h n (omega arith)) ∙ none-before no_visits

pub visits_below-one : (f : ℕ → Visits) (x n : ℕ) → x < n → ((y : ℕ) → y ≢ x → f y ≡ no_visits) → visits_below f n ≡ f x
unfolding visits_below
visits_below-one f x zero l h = absurd (omega arith)
visits_below-one f x (suc n) l h = elim (cases_lt x n) [
  | inl less ↦ (let other : n ≢ x = omega arith in ap₂ both (visits_below-one f x n less h) (h n other) ∙ before-none (f x))
  | inr least ↦ (let same : n ≡ x = omega arith in
      ap₂ both (visits_below-none f n (λ y k. h y (let other : y ≢ x = omega arith in other))) (ap f same) ∙ none-before (f x))
]

pub sum_below-one : (f : ℕ → ℕ) (x n : ℕ) → x < n → ((y : ℕ) → y ≢ x → f y ≡ 0) → sum_below f n ≡ f x
unfolding sum_below
sum_below-one f x zero l h = absurd (omega arith)
sum_below-one f x (suc n) l h = elim (cases_lt x n) [
  | inl less ↦ (let other : n ≢ x = omega arith in let before_it = sum_below-one f x n less h in let last = h n other in omega arith)
  | inr least ↦ (let same : n ≡ x = omega arith in let before_it = sum_below-none f n (λ y k. h y (let other : y ≢ x = omega arith in other)) in let last = ap f same in omega arith)
]
