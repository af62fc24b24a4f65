-- What a loop over pairs of nibbles writes, and a packed path by whether its length is even.
use Rattle.std.proofs.Common.{ℕ, zero, suc, ◌+◌, ◌*◌, ◌%◌, ◌<◌, ◌≡◌, Bool, true, cond, List, [], ◌∷◌, ◌++◌, length, take, drop, get_or, refl, ap, arith, eqb}
use Rattle.std.proofs.lemmas.Bool.{eq-eqb}
use Rattle.byte_model.specs.PackedPath.{packed, packed_behind, two_to_a_byte, leaf_flag, odd_flag}

pub two_to_a_byte-more : (path : List ℕ) (i : ℕ) → 2 * i + 1 < length path → two_to_a_byte (take (2 * (i + 1)) path) ≡ two_to_a_byte (take (2 * i) path) ++ (16 * get_or path (2 * i) 0 + get_or path (2 * i + 1) 0) ∷ []
unfolding two_to_a_byte
two_to_a_byte-more [] i within = absurd (omega (arith, within))
two_to_a_byte-more (last ∷ []) i within = absurd (omega (arith, within))
two_to_a_byte-more (high ∷ low ∷ rest) zero within = refl
two_to_a_byte-more (high ∷ low ∷ rest) (suc i) within =
    let inside : 2 * i + 1 < length rest = omega (arith, within) in
    let next : 2 * (suc i + 1) ≡ suc (suc (2 * (i + 1))) = omega arith in
    let here : 2 * suc i ≡ suc (suc (2 * i)) = omega arith in
    let after : suc (suc (2 * i)) + 1 ≡ suc (suc (2 * i + 1)) = omega arith in
    rw (next, here, after) (ap (λ bytes. (16 * high + low) ∷ bytes) (two_to_a_byte-more rest i inside))

pub packed-odd : (leaf : Bool) (path : List ℕ) → length path % 2 ≡ 1 → packed leaf path ≡ (cond leaf leaf_flag 0 + odd_flag + get_or path 0 0) ∷ two_to_a_byte (drop 1 path)
unfolding packed packed_behind
packed-odd leaf [] odd = absurd (omega (arith, odd))
packed-odd leaf (first ∷ rest) odd =
    let test : eqb (length (first ∷ rest) % 2) 1 ≡ true = eq-eqb _ _ odd in
    rw test refl
