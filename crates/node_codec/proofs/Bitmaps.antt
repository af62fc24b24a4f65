-- Counting the bits of a bitmap.
use Rattle.std.proofs.Common.{◌≡◌, ℕ, zero, suc, ◌+◌, ◌*◌, ◌%◌, ◌^◌, ◌<◌, ◌==◌, if◌then◌else◌, List, take, drop, None, Some, is_some, ◌≤◌, refl, sym, ◌∙◌, ap, ap₂, arith, bit_and, ◌-◌, inl, inr}
use Rattle.std.specs.Int.Count.{ones, ones_cat}
use Rattle.std.proofs.Math.Nat.{mod-lt, mod-eq_of_lt, add_comm}
use Rattle.std.proofs.Math.Pow.{pow-lt, pow_mono}
use Rattle.std.proofs.lemmas.Nat.{mod-pow-add, and_mask}
use Rattle.std.proofs.lemmas.Bool.{cases_lt}
use Rattle.byte_model.specs.Below.{sum_below}
use Rattle.byte_model.specs.Node.{child_count}
use Rattle.record_model.specs.Records.{bit, bits_below, child_in}

bit-small : (bitmap i : ℕ) → bit bitmap i < 2
bit-small bitmap i = omega arith

ones-bit : (n : ℕ) → n < 2 → ones n ≡ n
unfolding ones
ones-bit zero h = refl
ones-bit (suc zero) h = refl
ones-bit (suc (suc n)) h = absurd (omega arith)

pow-pos : (n : ℕ) → 0 < 2 ^ n
pow-pos n = let least : 2 ^ 0 ≤ 2 ^ n = pow_mono {i = 0} {j = n} (omega arith) in omega arith

-- the bits below n, by the count of what is left below 2 ^ n
pub ones-below : (bitmap n : ℕ) → ones (bitmap % 2 ^ n) ≡ bits_below bitmap n
unfolding sum_below
ones-below bitmap zero = let none : bitmap % 2 ^ 0 ≡ 0 = omega arith in ap ones none ∙ ones-bit 0 (omega arith)
ones-below bitmap (suc n) =
    let order : suc n ≡ 1 + n = omega arith in
    let split : bitmap % 2 ^ suc n ≡ bit bitmap n * 2 ^ n + bitmap % 2 ^ n = ap (λ (k : ℕ). bitmap % 2 ^ k) order ∙ mod-pow-add bitmap 1 n in
    ap ones split ∙ ones_cat n (bit bitmap n) (bitmap % 2 ^ n) (mod-lt bitmap (pow-pos n)) ∙ ap₂ (λ x y. x + y) (ones-bit (bit bitmap n) (bit-small bitmap n)) (ones-below bitmap n) ∙ add_comm (bit bitmap n) (bits_below bitmap n)

-- a bit that is set is one more
pub bits_below-more : (bitmap m n : ℕ) → m < n → bits_below bitmap m + bit bitmap m ≤ bits_below bitmap n
unfolding sum_below
bits_below-more bitmap m zero h = absurd (omega arith)
bits_below-more bitmap m (suc n) h =
    elim (cases_lt m n) [
      | inl l ↦ let further = bits_below-more bitmap m n l in omega arith
      | inr r ↦ let same : n ≡ m = omega arith in rw same (omega arith)
    ]

-- a child is there where its bit is set
child-bit : (bitmap : ℕ) (digests : List ℕ) (i b : ℕ) → b < 2 → (if is_some (if b == 1 then Some (take 32 (drop (32 * bits_below bitmap i) digests)) else None) then 1 else 0) ≡ b
child-bit bitmap digests i zero h = refl
child-bit bitmap digests i (suc zero) h = refl
child-bit bitmap digests i (suc (suc b)) h = absurd (omega arith)

kids-bits : (bitmap : ℕ) (digests : List ℕ) (n : ℕ) → sum_below (λ i. if is_some (child_in bitmap digests i) then 1 else 0) n ≡ bits_below bitmap n
unfolding sum_below
kids-bits bitmap digests zero = refl
kids-bits bitmap digests (suc n) = ap₂ (λ x y. x + y) (kids-bits bitmap digests n) (child-bit bitmap digests n (bit bitmap n) (bit-small bitmap n))

-- all bits of a bitmap of sixteen
pub ones-all : (bitmap : ℕ) → bitmap < 2 ^ 16 → ones bitmap ≡ bits_below bitmap 16
ones-all bitmap h =
    let whole : bitmap % 2 ^ 16 ≡ bitmap = omega arith in
    sym (ap ones whole) ∙ ones-below bitmap 16

-- The children are as many as the bits.
pub child_count-bits : (bitmap : ℕ) (digests : List ℕ) → bits_below bitmap 16 ≡ child_count (child_in bitmap digests)
child_count-bits bitmap digests = sym (kids-bits bitmap digests 16)

-- what `&` leaves of a bitmap
pub ones-masked : (bitmap i : ℕ) → i < 16 → ones (bit_and bitmap (1 * 2 ^ i % 65536 - 1)) ≡ bits_below bitmap i
ones-masked bitmap i within =
    let small : 1 * 2 ^ i < 65536 = omega (arith, pow-lt within) in
    let mask : 1 * 2 ^ i % 65536 ≡ 2 ^ i = mod-eq_of_lt small ∙ omega arith in
    ap (λ (m : ℕ). ones (bit_and bitmap (m - 1))) mask ∙ ap ones (and_mask bitmap i) ∙ ones-below bitmap i
