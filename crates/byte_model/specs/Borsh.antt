-- Borsh 1.0, as far as the records of this store use it: which bytes spell a value.
-- A struct and a fixed array are their parts in order, and an enum is a byte with the variant's ordinal and then the variant's fields, so neither needs a word here.
use Rattle.std.specs.Prelude.{ℕ, List, [], ◌∷◌, ◌++◌, length, Option, None, Some}
use Rattle.std.specs.Int.{w16, w32, w64, to_le_bytes}

-- an integer of one byte, and of two, four and eight, the lowest byte first
abbrev pub borsh_u8 : ℕ → List ℕ
borsh_u8 n = n ∷ []

unfoldable pub borsh_u16 : ℕ → List ℕ
borsh_u16 n = to_le_bytes w16 n

unfoldable pub borsh_u32 : ℕ → List ℕ
borsh_u32 n = to_le_bytes w32 n

unfoldable pub borsh_u64 : ℕ → List ℕ
borsh_u64 n = to_le_bytes w64 n

-- a vector of bytes: how many, as four bytes, and then the bytes
abbrev pub borsh_bytes : List ℕ → List ℕ
borsh_bytes bytes = borsh_u32 (length bytes) ++ bytes

-- an Option: the byte 0, or the byte 1 and the value
abbrev pub borsh_option : {X : Type 0} → (X → List ℕ) → Option X → List ℕ
borsh_option spelled None = 0 ∷ []
borsh_option spelled (Some x) = 1 ∷ spelled x
