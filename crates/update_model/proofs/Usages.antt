-- What a batch makes uses no more than what is seen states, and a bounded amount for each change.
use Rattle.std.proofs.Common.{◌≡◌, ◌≢◌, ℕ, zero, suc, ◌+◌, ◌*◌, ◌^◌, ◌<◌, ◌≤◌, ◌==◌, if◌then◌else◌, true, false, List, [], ◌∷◌, Option, None, Some, inl, inr, refl, subst, arith}
use Rattle.std.proofs.lemmas.Bool.{cases_lt}
use Rattle.byte_model.specs.Below.{sum_below}
use Rattle.byte_model.specs.PackedPath.{longest_path}
use Rattle.byte_model.specs.Node.{ValueRef, longest_value}
use Rattle.byte_model.proofs.Paths.{length-packed}
use Rattle.byte_model.proofs.Below.{sum_below-least, sum_below-at}
use Rattle.change_model.specs.Visits.{leaf_cost, branch_cost, extension_cost}
use Rattle.update_model.specs.Tops.{Top, empty, leaf, branch, extension, lowered, top_behind, top_usage}
use Rattle.update_model.specs.Joins.{Kid, named, known, is_there, kid_top, kid_usage, there, joint, joint_by}
use Rattle.update_model.proofs.TopsBelow.{NoBranch}
use Rattle.update_model.proofs.Joined.{only-holds}
use Rattle.update_model.specs.Growth.{growth}

-- ---- what a change may add

pub growth-further : (depth : ℕ) → depth ≤ longest_path → growth depth ≡ growth (depth + 1) + 512
unfolding growth
growth-further depth deep = omega arith

pub growth-least : (depth : ℕ) → 2 ^ 23 ≤ growth depth
unfolding growth
growth-least depth = omega arith

pub growth-most : (depth : ℕ) → growth depth ≤ 2 ^ 24
unfolding growth
growth-most depth = omega arith

-- what one change or none makes of its value, and so many further on
pub grows : (here further each total base : ℕ) → here ≤ 1 → 1 ≤ here + further → 2 ^ 23 ≤ each → total ≤ 52 + base + here * (50 + longest_value) + further * each → total ≤ base + (here + further) * (each + 512)
grows zero further each total base h k l m = omega arith
grows (suc zero) further each total base h k l m = omega arith
grows (suc (suc n)) further each total base h k l m = absurd (omega arith)

-- ---- sums

-- where one of them may be more
pub sum-one_le : (f g : ℕ → ℕ) (y more n : ℕ) → ((x : ℕ) → x < n → x ≢ y → f x ≤ g x) → f y ≤ g y + more → sum_below f n ≤ sum_below g n + more
unfolding sum_below
sum-one_le f g y more zero others here = omega arith
sum-one_le f g y more (suc n) others here = elim (cases_lt y n) [
  | inl less ↦ (let further = sum-one_le f g y more n (λ x l. others x (omega arith)) here in let last = others n (omega arith) (omega arith) in omega arith)
  | inr least ↦ elim (cases_lt n y) [
    | inl above ↦ (let further = sum_below-least f g n (λ x l. others x (omega arith) (omega arith)) in let last = others n (omega arith) (omega arith) in omega arith)
    | inr same_le ↦ (
        let same : y ≡ n = omega arith in
        let further = sum_below-least f g n (λ x l. others x (omega arith) (omega arith)) in
        let last : f n ≤ g n + more = subst (λ z. f z ≤ g z + more) same here in
        omega arith)
  ]
]

pub sum-none : (f : ℕ → ℕ) (n : ℕ) → ((x : ℕ) → f x ≡ 0) → sum_below f n ≡ 0
unfolding sum_below
sum-none f zero h = refl
sum-none f (suc n) h = let further = sum-none f n h in let last = h n in omega arith

-- where all but one are none
pub sum-only : (f : ℕ → ℕ) (y n : ℕ) → ((x : ℕ) → x ≢ y → f x ≡ 0) → sum_below f n ≤ f y
sum-only f y n none =
    let zeros = sum-none (λ x. 0) n (λ x. refl) in
    let all = sum-one_le f (λ x. 0) y (f y) n (λ x l apart. let z = none x apart in omega arith) (omega arith) in
    omega arith

-- ---- what tops cost

-- what a value costs
abbrev pub value_cost : Option ValueRef → ℕ
value_cost None = 0
value_cost (Some ref) = 50 + ref.length

pub branch_cost-value : (ref : Option ValueRef) → branch_cost ref ≡ 50 + value_cost ref
branch_cost-value None = refl
branch_cost-value (Some ref) = omega arith

pub leaf_cost-nil : (ref : ValueRef) → leaf_cost [] ref ≡ 102 + ref.length
leaf_cost-nil ref = let bytes = length-packed true [] in omega arith

pub leaf_cost-cons : (x : ℕ) (path : List ℕ) (ref : ValueRef) → (leaf_cost path ref ≤ leaf_cost (x ∷ path) ref) × (leaf_cost (x ∷ path) ref ≤ 52 + leaf_cost path ref)
leaf_cost-cons x path ref = let bytes = length-packed true path in let more = length-packed true (x ∷ path) in (omega arith, omega arith)

pub extension_cost-cons : (x : ℕ) (path : List ℕ) → (extension_cost path ≤ extension_cost (x ∷ path)) × (extension_cost (x ∷ path) ≤ 52 + extension_cost path)
extension_cost-cons x path = let bytes = length-packed false path in let more = length-packed false (x ∷ path) in (omega arith, omega arith)

pub extension_cost-one : (x : ℕ) → extension_cost (x ∷ []) ≡ 52
extension_cost-one x = let bytes = length-packed false (x ∷ []) in omega arith

-- one nibble before a top
pub usage-lowered : (x : ℕ) (top : Top) → top_usage (lowered (x ∷ []) top) ≤ 52 + top_usage top
unfolding lowered top_usage
usage-lowered x empty = omega arith
usage-lowered x (leaf path ref) = (leaf_cost-cons x path ref).1
usage-lowered x (branch digest used) = let one = extension_cost-one x in omega arith
usage-lowered x (extension path child used) = let more = (extension_cost-cons x path).1 in omega arith

usage-before : (path child : List ℕ) (used : ℕ) → top_usage (lowered path (branch child used)) ≤ extension_cost path + used
unfolding lowered top_usage
usage-before [] child used = omega arith
usage-before (x ∷ path) child used = omega arith

-- what stands behind a nibble uses no more than the whole
pub usage-top_behind : (x : ℕ) (old : Top) → NoBranch old → top_usage (top_behind x old) ≤ top_usage old
unfolding top_behind top_usage
usage-top_behind x empty over = omega arith
usage-top_behind x (leaf [] ref) over = omega arith
usage-top_behind x (leaf (y ∷ path) ref) over =
    let less = (leaf_cost-cons y path ref).0 in
    elim (x == y) as (λ b. top_usage (if b then leaf path ref else empty) ≤ leaf_cost (y ∷ path) ref) [ true ↦ less | false ↦ omega arith ]
usage-top_behind x (branch digest used) over = absurd over
usage-top_behind x (extension [] child used) over = omega arith
usage-top_behind x (extension (y ∷ path) child used) over =
    let less = (extension_cost-cons y path).0 in
    let low = usage-before path child used in
    elim (x == y) as (λ b. top_usage (if b then lowered path (branch child used) else empty) ≤ extension_cost (y ∷ path) + used) [ true ↦ omega arith | false ↦ omega arith ]

-- ---- a value and children joined

pub usage-joint : (ref : Option ValueRef) (kids : ℕ → Kid) (used : ℕ) → top_usage (joint ref kids used).top ≤ 52 + (value_cost ref + (used + sum_below (λ x. kid_usage (kids x)) 16))
unfolding joint top_usage kid_usage kid_top
usage-joint ref kids used = go ref refl (there kids) refl
  where
    sum : ℕ
    sum = sum_below (λ x. kid_usage (kids x)) 16

    lone : (k : Kid) → top_usage (kid_top k) ≤ kid_usage k
    lone (named digest) = omega arith
    lone (known top) = omega arith

    go : (o : Option ValueRef) → ref ≡ o → (l : List ℕ) → there kids ≡ l → top_usage (joint_by ref (there kids) kids used).top ≤ 52 + (value_cost ref + (used + sum))
    go None r [] e = rw (r, e) (omega arith)
    go None r (x ∷ []) e =
        let small = (only-holds (λ x. is_there (kids x)) 16 x e).0 in
        let one = sum_below-at (λ x. kid_usage (kids x)) x 16 small in
        let top = usage-lowered x (kid_top (kids x)) in
        let known_top = lone (kids x) in
        rw (r, e) (omega arith)
    go None r (x ∷ y ∷ l) e = rw (r, e) (omega arith)
    go (Some value) r [] e = let cost = leaf_cost-nil value in rw (r, e) (omega arith)
    go (Some value) r (x ∷ l) e = rw (r, e) (omega arith)
