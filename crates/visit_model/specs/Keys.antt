-- The keys and pairs that rows stand for.
use Rattle.std.specs.Prelude.{◌≡◌, ℕ, ◌+◌, ◌*◌, List, [], ◌∷◌, Some}
use Rattle.std.specs.FinMap.{get}
use Rattle.byte_model.specs.Nibbles.{AreBytes}
use Rattle.trie_model.specs.State.{Row}
use Rattle.trie_model.specs.Root.{Table}

-- each text of a table is of bytes
abbrev pub AreByteTexts : Table → Type 0
AreByteTexts table = (digest text : List ℕ) → get table digest ≡ Some text → AreBytes text

-- the key with these nibbles, of which there are two for each byte
unfoldable pub key_of : List ℕ → List ℕ
key_of [] = []
key_of (high ∷ []) = []
key_of (high ∷ low ∷ path) = (high * 16 + low) ∷ key_of path

-- the pair that a row stands for
abbrev pub pair_of : Row → List ℕ × List ℕ
pair_of row = (key_of row.0, row.1)
