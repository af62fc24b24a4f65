-- Worked partial states and recordings, and names that several texts share.
use Rattle.std.specs.Prelude.{ℕ, List, [], ◌∷◌, ◌++◌, drop, None, Some}
use Rattle.std.specs.FinMap.{from_sorted}
use Rattle.trie_model.specs.Root.{zero_digest}
use Rattle.partial_model.specs.Recording.{Recording}

-- the texts 61 and 6162, the first of which is a prefix of the second
abbrev pub two_texts : List (List ℕ)
two_texts = (0x61 ∷ []) ∷ (0x61 ∷ 0x62 ∷ []) ∷ []

-- how they are spelled: 16 bytes
abbrev pub two_spelled : List ℕ
two_spelled = 0x00 ∷ 0x02 ∷ 0x00 ∷ 0x00 ∷ 0x00 ∷ 0x01 ∷ 0x00 ∷ 0x00 ∷ 0x00 ∷ 0x61 ∷ 0x02 ∷ 0x00 ∷ 0x00 ∷ 0x00 ∷ 0x61 ∷ 0x62 ∷ []

-- the most texts that a count can claim, of which one stands there, empty, and of the next a byte
abbrev pub claimed : List ℕ
claimed = 0x00 ∷ 0xff ∷ 0xff ∷ 0xff ∷ 0xff ∷ 0x00 ∷ 0x00 ∷ 0x00 ∷ 0x00 ∷ 0x00 ∷ []

-- a text of one byte, behind its length
abbrev pub one_byte_text : ℕ → List ℕ
one_byte_text byte = 0x01 ∷ 0x00 ∷ 0x00 ∷ 0x00 ∷ byte ∷ []

-- The texts 61 02, 62 02, 63 01 and 64 01. If all bytes but the first were a name, the first two would share 02, and the others 01.
abbrev pub alike_in_pairs : List (List ℕ)
alike_in_pairs = (0x61 ∷ 0x02 ∷ []) ∷ (0x62 ∷ 0x02 ∷ []) ∷ (0x63 ∷ 0x01 ∷ []) ∷ (0x64 ∷ 0x01 ∷ []) ∷ []

abbrev pub behind_first : List ℕ → List ℕ
behind_first text = drop 1 text

-- ---- recordings

-- The key 61 is read, the key 62 is deleted, and the key 63 becomes 64. The root is 32 zeros, and no text is there.
abbrev pub small_recording : Recording
small_recording = record {
  root = zero_digest;
  reads = (0x61 ∷ []) ∷ [];
  changes = from_sorted ((0x62 ∷ [], None) ∷ (0x63 ∷ [], Some (0x64 ∷ [])) ∷ []);
  state = [];
}

-- the fields up to the changes, and one change, behind the key
abbrev pub one_read : List ℕ
one_read = zero_digest ++ 0x01 ∷ 0x00 ∷ 0x00 ∷ 0x00 ∷ one_byte_text 0x61

abbrev pub two_changes : ℕ → ℕ → ℕ → List ℕ
two_changes first second kind = 0x02 ∷ 0x00 ∷ 0x00 ∷ 0x00 ∷ one_byte_text first ++ 0x00 ∷ one_byte_text second ++ kind ∷ one_byte_text 0x64

abbrev pub no_state : List ℕ
no_state = 0x00 ∷ 0x00 ∷ 0x00 ∷ 0x00 ∷ 0x00 ∷ []

-- two texts of which the second is below the first
abbrev pub falling_state : List ℕ
falling_state = 0x00 ∷ 0x02 ∷ 0x00 ∷ 0x00 ∷ 0x00 ∷ one_byte_text 0x62 ++ one_byte_text 0x61
