-- A key as nibbles, numbers below 16: two for each byte, the high one first.
use Rattle.std.specs.Prelude.{ℕ, ◌/◌, ◌%◌, ◌<◌, List, [], ◌∷◌}
use Rattle.std.specs.List.{AllByRecursion}

unfoldable pub nibbles : List ℕ → List ℕ
nibbles [] = []
nibbles (byte ∷ key) = byte / 16 ∷ byte % 16 ∷ nibbles key

-- the most bytes that a key may have: a column, an account id, a separator and a rest
abbrev pub longest_key : ℕ
longest_key = 2114

-- each is below 16
abbrev pub AreNibbles : List ℕ → Type 0
AreNibbles path = AllByRecursion (λ nibble. nibble < 16) path

-- each is below 256
abbrev pub AreBytes : List ℕ → Type 0
AreBytes bytes = AllByRecursion (λ byte. byte < 256) bytes
