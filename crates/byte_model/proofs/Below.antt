-- What is made of the numbers below a bound: sums and lists joined.
use Rattle.std.proofs.Common.{◌≡◌, ◌≢◌, ℕ, zero, suc, ◌+◌, ◌*◌, ◌<◌, ◌≤◌, List, [], ◌++◌, map, sum_by, refl, ◌∙◌, ap, ap₂, sym, subst, arith, add-one, append-nil, inl, inr}
use Rattle.std.proofs.lemmas.Bool.{cases_lt}
use Rattle.std.proofs.lemmas.List.{map-append}
use Rattle.std.proofs.lemmas.List.Sums.{sum_by-append}
use Rattle.byte_model.specs.Below.{sum_below, joined_below}

-- ---- sums

-- one number more
pub sum_below-more : (f : ℕ → ℕ) (n : ℕ) → sum_below f (n + 1) ≡ sum_below f n + f n
unfolding sum_below
sum_below-more f n = rw add-one refl

pub sum_below-agree : (f g : ℕ → ℕ) (n : ℕ) → ((x : ℕ) → x < n → f x ≡ g x) → sum_below f n ≡ sum_below g n
unfolding sum_below
sum_below-agree f g zero same = refl
sum_below-agree f g (suc n) same = ap₂ (λ (a b : ℕ). a + b) (sum_below-agree f g n (λ x h. same x (omega arith))) (same n (omega arith))

pub sum_below-le : (f g : ℕ → ℕ) (n : ℕ) → ((x : ℕ) → f x ≤ g x) → sum_below f n ≤ sum_below g n
unfolding sum_below
sum_below-le f g zero h = omega arith
sum_below-le f g (suc n) h =
    let further = sum_below-le f g n h in
    let last = h n in
    omega arith

pub sum_below-zero : (n : ℕ) → sum_below (λ x. 0) n ≡ 0
unfolding sum_below
sum_below-zero zero = refl
sum_below-zero (suc n) = let further = sum_below-zero n in omega arith

pub sum_below-add_mul : (a b : ℕ → ℕ) (m n : ℕ) → sum_below (λ x. a x + b x * m) n ≡ sum_below a n + sum_below b n * m
unfolding sum_below
sum_below-add_mul a b m zero = omega arith
sum_below-add_mul a b m (suc n) =
    let further = sum_below-add_mul a b m n in
    omega arith

pub sum_below-plus : (f g : ℕ → ℕ) (n : ℕ) → sum_below (λ x. f x + g x) n ≡ sum_below f n + sum_below g n
unfolding sum_below
sum_below-plus f g zero = omega arith
sum_below-plus f g (suc n) = let h = sum_below-plus f g n in omega arith

pub sum_below-none : (f : ℕ → ℕ) (n : ℕ) → ((x : ℕ) → x < n → f x ≡ 0) → sum_below f n ≡ 0
unfolding sum_below
sum_below-none f zero none = refl
sum_below-none f (suc n) none = let h = sum_below-none f n (λ x k. none x (omega arith)) in let last = none n (omega arith) in omega arith

-- one of them alone is not 0
pub sum_below-single : (f : ℕ → ℕ) (n y : ℕ) → y < n → ((x : ℕ) → x < n → x ≢ y → f x ≡ 0) → sum_below f n ≡ f y
unfolding sum_below
sum_below-single f zero y h none = absurd (omega arith)
sum_below-single f (suc n) y h none =
    elim (cases_lt y n) [
      | inl l ↦ let k = sum_below-single f n y l (λ x small apart. none x (omega arith) apart) in let last = none n (omega arith) (omega arith) in omega arith
      | inr r ↦
          let last : y ≡ n = omega arith in
          let others = sum_below-none f n (λ x small. none x (omega arith) (omega arith)) in
          subst (λ z. sum_below f n + f n ≡ f z) (sym last) (omega arith)
    ]

pub sum_below-least : (f g : ℕ → ℕ) (n : ℕ) → ((x : ℕ) → x < n → f x ≤ g x) → sum_below f n ≤ sum_below g n
unfolding sum_below
sum_below-least f g zero le = omega arith
sum_below-least f g (suc n) le = let h = sum_below-least f g n (λ x k. le x (omega arith)) in let last = le n (omega arith) in omega arith

pub sum_below-at : (f : ℕ → ℕ) (x n : ℕ) → x < n → f x ≤ sum_below f n
unfolding sum_below
sum_below-at f x zero h = absurd (omega arith)
sum_below-at f x (suc n) h = elim (cases_lt x n) [
  | inl less ↦ (let further = sum_below-at f x n less in omega arith)
  | inr least ↦ (let same : n ≡ x = omega arith in let last = ap f same in omega arith)
]

-- a sum so far is no more than the whole
pub sum_below-part : (f : ℕ → ℕ) (m n : ℕ) → m ≤ n → sum_below f m ≤ sum_below f n
unfolding sum_below
sum_below-part f m zero h = let same : m ≡ 0 = omega arith in let all = ap (sum_below f) same in omega arith
sum_below-part f m (suc n) h = elim (cases_lt n m) [
  | inl less ↦ (let same : m ≡ suc n = omega arith in let all = ap (sum_below f) same in omega arith)
  | inr more ↦ (let further = sum_below-part f m n more in omega arith)
]

-- ---- lists joined

pub joined_below-more : {X : Type 0} (f : ℕ → List X) (n : ℕ) → joined_below f (n + 1) ≡ joined_below f n ++ f n
unfolding joined_below
joined_below-more f n = rw add-one refl

pub joined_below-agree : {X : Type 0} (f g : ℕ → List X) (n : ℕ) → ((x : ℕ) → x < n → f x ≡ g x) → joined_below f n ≡ joined_below g n
unfolding joined_below
joined_below-agree f g zero same = refl
joined_below-agree {X} f g (suc n) same = ap₂ (λ (a b : List X). a ++ b) (joined_below-agree f g n (λ x h. same x (omega arith))) (same n (omega arith))

pub map-joined_below : {X Y : Type 0} (h : X → Y) (f : ℕ → List X) (n : ℕ) → map h (joined_below f n) ≡ joined_below (λ x. map h (f x)) n
unfolding joined_below
map-joined_below h f zero = refl
map-joined_below {Y = Y} h f (suc n) = map-append h (joined_below f n) (f n) ∙ ap (λ (a : List Y). a ++ map h (f n)) (map-joined_below h f n)

pub sum_by-joined_below : {X : Type 0} (h : X → ℕ) (f : ℕ → List X) (n : ℕ) → sum_by h (joined_below f n) ≡ sum_below (λ x. sum_by h (f x)) n
unfolding joined_below sum_below
sum_by-joined_below h f zero = refl
sum_by-joined_below h f (suc n) = sum_by-append h (joined_below f n) (f n) ∙ ap (λ (a : ℕ). a + sum_by h (f n)) (sum_by-joined_below h f n)

pub joined_below-empty : {X : Type 0} (f : ℕ → List X) (n : ℕ) → ((x : ℕ) → x < n → f x ≡ []) → joined_below f n ≡ []
unfolding joined_below
joined_below-empty f zero none = refl
joined_below-empty {X} f (suc n) none = ap₂ (λ (a b : List X). a ++ b) (joined_below-empty f n (λ x h. none x (omega arith))) (none n (omega arith))

pub joined_below-only : {X : Type 0} (f : ℕ → List X) (y n : ℕ) → y < n → ((x : ℕ) → x ≢ y → f x ≡ []) → joined_below f n ≡ f y
unfolding joined_below
joined_below-only f y zero small none = absurd (omega arith)
joined_below-only {X} f y (suc n) small none =
    elim (cases_lt y n) [
      | inl l ↦ ap₂ (λ (a b : List X). a ++ b) (joined_below-only f y n l none) (none n (omega arith)) ∙ append-nil (f y)
      | inr r ↦
          let last : n ≡ y = omega arith in
          ap (λ (a : List X). a ++ f n) (joined_below-empty f n (λ x h. none x (omega arith))) ∙ ap f last
    ]
