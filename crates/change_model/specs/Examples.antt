-- Worked batches over the states of trie_model, whose digests and sizes were computed outside of this project.
use Rattle.std.specs.Prelude.{[], ◌∷◌, None, Some}
use Rattle.std.specs.FinMap.{from_sorted}
use Rattle.trie_model.specs.State.{State}
use Rattle.batch_model.specs.Changes.{Changes}

-- the key 62 is deleted
abbrev pub delete_b : Changes
delete_b = from_sorted ((0x62 ∷ [], None) ∷ [])

-- the keys 61 and 62, both with the value 76
abbrev pub same_values_state : State
same_values_state = from_sorted ((0x61 ∷ [], 0x76 ∷ []) ∷ (0x62 ∷ [], 0x76 ∷ []) ∷ [])

-- the key 61, as its own value, and the key 62 set so
abbrev pub one_key_state : State
one_key_state = from_sorted ((0x61 ∷ [], 0x61 ∷ []) ∷ [])

abbrev pub set_b : Changes
set_b = from_sorted ((0x62 ∷ [], Some (0x62 ∷ [])) ∷ [])
