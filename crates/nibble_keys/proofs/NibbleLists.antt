-- The nibbles of a key by their index.
use Rattle.std.proofs.Common.{ℕ, zero, suc, ◌+◌, ◌-◌, ◌*◌, ◌/◌, ◌%◌, ◌≡◌, List, [], ◌∷◌, length, take, drop, get_or, refl, ap, sym, ◌∙◌, arith, length-drop}
use Rattle.std.proofs.lemmas.List.{get_or-drop}
use Rattle.byte_model.specs.Nibbles.{nibbles}
use Rattle.byte_model.proofs.Digits.{length-nibbles}

twice-suc : (i : ℕ) → 2 * suc i ≡ suc (suc (2 * i))
twice-suc i = omega arith

pub drop-nibbles : (key : List ℕ) (i : ℕ) → drop (2 * i) (nibbles key) ≡ nibbles (drop i key)
unfolding nibbles
drop-nibbles [] zero = refl
drop-nibbles [] (suc i) = rw (twice-suc i) refl
drop-nibbles (byte ∷ key) zero = refl
drop-nibbles (byte ∷ key) (suc i) = rw (twice-suc i) (drop-nibbles key i)

pub take-nibbles : (key : List ℕ) (i : ℕ) → take (2 * i) (nibbles key) ≡ nibbles (take i key)
unfolding nibbles
take-nibbles [] zero = refl
take-nibbles [] (suc i) = rw (twice-suc i) refl
take-nibbles (byte ∷ key) zero = refl
take-nibbles (byte ∷ key) (suc i) = rw (twice-suc i) (ap (λ path. byte / 16 ∷ byte % 16 ∷ path) (take-nibbles key i))

-- the high nibble of a byte, and the low one
pub get_or-nibbles_high : (key : List ℕ) (i : ℕ) → get_or (nibbles key) (2 * i) 0 ≡ get_or key i 0 / 16
unfolding nibbles
get_or-nibbles_high [] i = refl
get_or-nibbles_high (byte ∷ key) zero = refl
get_or-nibbles_high (byte ∷ key) (suc i) = rw (twice-suc i) (get_or-nibbles_high key i)

pub get_or-nibbles_low : (key : List ℕ) (i : ℕ) → get_or (nibbles key) (2 * i + 1) 0 ≡ get_or key i 0 % 16
unfolding nibbles
get_or-nibbles_low [] i = refl
get_or-nibbles_low (byte ∷ key) zero = refl
get_or-nibbles_low (byte ∷ key) (suc i) =
    let e : 2 * suc i + 1 ≡ suc (suc (2 * i + 1)) = omega arith in rw e (get_or-nibbles_low key i)

-- the nibble at any index
pub get_or-nibbles_even : (key : List ℕ) (index : ℕ) → index % 2 ≡ 0 → get_or (nibbles key) index 0 ≡ get_or key (index / 2) 0 / 16
get_or-nibbles_even key index even =
    let half : index ≡ 2 * (index / 2) = omega arith in
    ap (λ n. get_or (nibbles key) n 0) half ∙ get_or-nibbles_high key (index / 2)

pub get_or-nibbles_odd : (key : List ℕ) (index : ℕ) → index % 2 ≡ 1 → get_or (nibbles key) index 0 ≡ get_or key (index / 2) 0 % 16
get_or-nibbles_odd key index odd =
    let half : index ≡ 2 * (index / 2) + 1 = omega arith in
    ap (λ n. get_or (nibbles key) n 0) half ∙ get_or-nibbles_low key (index / 2)

-- what is left of a key from an index on, which a view of it is
pub length-view : (key path : List ℕ) (index : ℕ) → drop index (nibbles key) ≡ path → length path ≡ 2 * length key - index
length-view key path index is = sym (ap length is) ∙ simp (length-drop, length-nibbles)

pub get_or-view : (key path : List ℕ) (index i : ℕ) → drop index (nibbles key) ≡ path → get_or (nibbles key) (index + i) 0 ≡ get_or path i 0
get_or-view key path index i is = sym (get_or-drop index (nibbles key) i 0) ∙ ap (λ p. get_or p i 0) is
