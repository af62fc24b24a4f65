-- What comes of a block at its end (this project's own). The first cause decides: its id, its prev, its height, or how many blocks are live; two of its texts that clash; more pairs of its state than there may be; a text of it that clashes with a live one. Else it is accepted.
use Rattle.std.specs.Prelude.{ℕ, nat_lt, List, Option, None, Some, if◌then◌else◌}
use Rattle.std.specs.FinMap.{len}
use Rattle.trie_model.specs.State.{State}
use Rattle.batch_model.specs.Changes.{Changes, after}
use Rattle.fork_model.specs.Trees.{Header, BlockFault, no_prev, block_fault}
use Rattle.fork_model.specs.States.{ForkState, tree_of_blocks, state_at}
use Rattle.count_model.specs.Clashes.{made_clash, live_clash}

-- refused for a fault; texts clash, with the digest that is told; refused for its pairs; or accepted, with its state
pub data BlockEnd : Type 0 where
  faulty : BlockFault → BlockEnd
  clashing : (digest : List ℕ) → BlockEnd
  too_many : BlockEnd
  accepted : State → BlockEnd

abbrev pub end_beside : (live : Option (List ℕ)) → State → BlockEnd
end_beside (Some digest) state = clashing digest
end_beside None state = accepted state

abbrev pub end_by_texts : (most : ℕ) → (made live : Option (List ℕ)) → State → BlockEnd
end_by_texts most (Some digest) live state = clashing digest
end_by_texts most None live state = if nat_lt most (len state) then too_many else end_beside live state

-- A block without a fault has a prev.
abbrev pub end_over : (most : ℕ) → ForkState → Changes → Option BlockFault → (prev : Option State) → BlockEnd
end_over most forks changes (Some fault) prev = faulty fault
end_over most forks changes None None = faulty no_prev
end_over most forks changes None (Some prev) = end_by_texts most (made_clash prev changes) (live_clash forks prev changes) (after prev changes)

-- where a state may have so many pairs, and so many blocks may be live
unfoldable pub block_end : (most_pairs most_blocks : ℕ) → ForkState → Header → Changes → BlockEnd
block_end most_pairs most_blocks forks header changes = end_over most_pairs forks changes (block_fault most_blocks (tree_of_blocks forks) header) (state_at forks header.prev)
