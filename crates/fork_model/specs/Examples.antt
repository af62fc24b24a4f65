-- A worked history: four blocks in two forks, a head move, and what is offered after it. Each id is one byte, repeated.
use Rattle.std.specs.Prelude.{ℕ, List, [], ◌∷◌, map, replicate, Option, Some, None}
use Rattle.std.specs.Option.{option_map}
use Rattle.std.specs.FinMap.{from_sorted, empty, get}
use Rattle.byte_model.specs.Node.{digest_width}
use Rattle.batch_model.specs.Changes.{Changes}
use Rattle.fork_model.specs.Trees.{Header, BlockTree, start, after_block, after_move}
use Rattle.fork_model.specs.States.{ForkState, first_fork, after_offer, after_head, state_at}

abbrev pub id_of : ℕ → List ℕ
id_of n = replicate digest_width n

abbrev pub header_of : (id prev height : ℕ) → Header
header_of id prev height = record { id = id_of id; prev = id_of prev; height = height }

-- as many live blocks as a run may have
abbrev pub many : ℕ
many = 4096

-- block 1 over the start, 2 and 3 over 1, and 4 over 2
abbrev pub four_blocks : BlockTree
four_blocks =
    after_block many (after_block many (after_block many (after_block many start (header_of 1 0 1)) (header_of 2 1 2)) (header_of 3 1 3)) (header_of 4 2 5)

-- the head moved to block 2
abbrev pub two_blocks : BlockTree
two_blocks = after_move four_blocks (id_of 2)

-- ---- with states

-- the key 61 becomes 61
abbrev pub set_a : Changes
set_a = from_sorted ((0x61 ∷ [], Some (0x61 ∷ [])) ∷ [])

-- the key 61 is deleted, and 62 becomes 62
abbrev pub a_for_b : Changes
a_for_b = from_sorted ((0x61 ∷ [], None) ∷ (0x62 ∷ [], Some (0x62 ∷ [])) ∷ [])

-- the same blocks: 1 sets the key 61, 3 deletes it and sets 62, and 2 and 4 change nothing
abbrev pub four_states : ForkState
four_states =
    after_offer many (after_offer many (after_offer many (after_offer many first_fork (header_of 1 0 1) set_a) (header_of 2 1 2) empty) (header_of 3 1 3) a_for_b) (header_of 4 2 5) empty

abbrev pub two_states : ForkState
two_states = after_head four_states (id_of 2)

-- what a live block has at the keys 61 and 62
abbrev pub at_keys : ForkState → List ℕ → List (Option (Option (List ℕ)))
at_keys forks id = map (λ key. option_map (λ state. get state key) (state_at forks id)) ((0x61 ∷ []) ∷ (0x62 ∷ []) ∷ [])
