-- A path of nibbles as bytes (after nearcore): a first byte with two flags, and then two nibbles to a byte.
-- The flag 0x20 says that the path ends at a leaf. The flag 0x10 says that the number of nibbles is odd, and then the first of them is the low half of the first byte. That half is 0 where the number is even.
use Rattle.std.specs.Prelude.{ℕ, ◌+◌, ◌*◌, ◌%◌, ◌==◌, Bool, true, false, List, [], ◌∷◌, length, if◌then◌else◌}
use Rattle.byte_model.specs.Nibbles.{longest_key}

abbrev pub leaf_flag : ℕ
leaf_flag = 0x20

abbrev pub odd_flag : ℕ
odd_flag = 0x10

-- the most nibbles that a path may have: those of the longest key
abbrev pub longest_path : ℕ
longest_path = 2 * longest_key

-- two nibbles to a byte, the first of them high
unfoldable pub two_to_a_byte : List ℕ → List ℕ
two_to_a_byte [] = []
two_to_a_byte (last ∷ []) = []
two_to_a_byte (high ∷ low ∷ rest) = (16 * high + low) ∷ two_to_a_byte rest

-- the path behind the flags: a nibble without a second stands in the first byte
unfoldable pub packed_behind : ℕ → Bool → List ℕ → List ℕ
packed_behind flags odd [] = flags ∷ []
packed_behind flags true (first ∷ rest) = (flags + odd_flag + first) ∷ two_to_a_byte rest
packed_behind flags false (first ∷ rest) = flags ∷ two_to_a_byte (first ∷ rest)

-- the packed path, of a leaf or not
unfoldable pub packed : Bool → List ℕ → List ℕ
packed leaf path = packed_behind (if leaf then leaf_flag else 0) (length path % 2 == 1) path
