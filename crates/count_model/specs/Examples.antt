-- Worked histories, whose digests and counts were computed outside of this project.
use Rattle.std.specs.Prelude.{ℕ, List, [], ◌∷◌, Some}
use Rattle.std.specs.FinMap.{from_sorted}
use Rattle.trie_model.specs.Root.{zero_digest}
use Rattle.batch_model.specs.Changes.{Changes}
use Rattle.change_model.specs.Examples.{delete_b}
use Rattle.fork_model.specs.States.{ForkState, first_fork, after_offer}
use Rattle.fork_model.specs.Examples.{header_of, many}

-- the keys 61 and 62, each as its own value, and both with the value 76
abbrev pub set_two : Changes
set_two = from_sorted ((0x61 ∷ [], Some (0x61 ∷ [])) ∷ (0x62 ∷ [], Some (0x62 ∷ [])) ∷ [])

abbrev pub set_alike : Changes
set_alike = from_sorted ((0x61 ∷ [], Some (0x76 ∷ [])) ∷ (0x62 ∷ [], Some (0x76 ∷ [])) ∷ [])

-- Block 1 sets two keys over the start, and block 2 deletes the second of them over 1.
abbrev pub one_line : Changes → ForkState
one_line changes = after_offer many (after_offer many first_fork (header_of 1 0 1) changes) (header_of 2 1 2) delete_b

-- Blocks 1 and 2 set the same two keys over the start.
abbrev pub two_forks : ForkState
two_forks = after_offer many (after_offer many first_fork (header_of 1 0 1) set_two) (header_of 2 0 1) set_two

-- A name that texts share: their first byte. A text without bytes has the zero one.
abbrev pub first_byte : List ℕ → List ℕ
first_byte [] = zero_digest
first_byte (x ∷ text) = x ∷ []
