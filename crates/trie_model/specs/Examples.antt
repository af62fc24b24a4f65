-- Worked states, whose digests and sizes were computed outside of this project.
use Rattle.std.specs.Prelude.{ℕ, List, [], ◌∷◌}
use Rattle.std.specs.FinMap.{empty, from_sorted}
use Rattle.trie_model.specs.State.{State}

abbrev pub empty_state : State
empty_state = empty

-- the key 61 with the value 6869
abbrev pub one_pair_state : State
one_pair_state = from_sorted ((0x61 ∷ [], 0x68 ∷ 0x69 ∷ []) ∷ [])

-- the empty key with the empty value
abbrev pub empty_key_state : State
empty_key_state = from_sorted (([], []) ∷ [])

-- the keys 61 and 62, each as its own value
abbrev pub two_keys_state : State
two_keys_state = from_sorted ((0x61 ∷ [], 0x61 ∷ []) ∷ (0x62 ∷ [], 0x62 ∷ []) ∷ [])

-- the key 61 with the value 61, and the key 6162 with the value 62
abbrev pub prefix_key_state : State
prefix_key_state = from_sorted ((0x61 ∷ [], 0x61 ∷ []) ∷ (0x61 ∷ 0x62 ∷ [], 0x62 ∷ []) ∷ [])

-- the text of the leaf that the key 61 has in the next state
abbrev pub first_leaf : List ℕ
first_leaf =
    0x00 ∷ 0x01 ∷ 0x00 ∷ 0x00 ∷ 0x00 ∷ 0x20 ∷ 0x02 ∷ 0x00 ∷ 0x00 ∷ 0x00 ∷ 0x8f ∷ 0x43 ∷ 0x43 ∷ 0x46 ∷ 0x64 ∷ 0x8f ∷ 0x6b ∷ 0x96 ∷ 0xdf ∷ 0x89 ∷ 0xdd ∷ 0xa9 ∷ 0x01 ∷ 0xc5 ∷ 0x17
    ∷ 0x6b ∷ 0x10 ∷ 0xa6 ∷ 0xd8 ∷ 0x39 ∷ 0x61 ∷ 0xdd ∷ 0x3c ∷ 0x1a ∷ 0xc8 ∷ 0x8b ∷ 0x59 ∷ 0xb2 ∷ 0xdc ∷ 0x32 ∷ 0x7a ∷ 0xa4 ∷ 0x68 ∷ 0x00 ∷ 0x00 ∷ 0x00 ∷ 0x00 ∷ 0x00 ∷ 0x00 ∷ 0x00 ∷ []

-- the key 61 with the value 6869, and the key 62 with the text of the other key's leaf
abbrev pub text_as_value_state : State
text_as_value_state = from_sorted ((0x61 ∷ [], 0x68 ∷ 0x69 ∷ []) ∷ (0x62 ∷ [], first_leaf) ∷ [])
