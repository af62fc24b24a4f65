-- Live blocks with their states: the state of a block is that of its prev with its changes laid over, and each block keeps its changes (this project's own).
use Rattle.std.specs.Prelude.{◌≡◌, ℕ, false, List, [], ◌∷◌, ◌++◌, length, map, sum_by, Option, None, Some, IfSome, not, if◌then◌else◌}
use Rattle.std.specs.Option.{option_map, unwrap_or, IsSomeAnd}
use Rattle.std.specs.List.{filter, find}
use Rattle.std.specs.Str.{bytes_eq}
use Rattle.std.specs.FinMap.{empty, entries}
use Rattle.trie_model.specs.State.{State}
use Rattle.trie_model.specs.Root.{zero_digest}
use Rattle.batch_model.specs.Changes.{Changes, after}
use Rattle.fork_model.specs.Trees.{Header, BlockTree, BlockFault, IsTree, block_fault, descends, is_live}

-- a block, its state, and the changes that it keeps
pub record Block : Type 0 where
  pub header : Header
  pub state : State
  pub changes : Changes

-- the id of the head, and the live blocks in the order in which they were accepted, the head among them
pub record ForkState : Type 0 where
  pub head : List ℕ
  pub blocks : List Block

-- the tree without states and changes
abbrev pub tree_of_blocks : ForkState → BlockTree
tree_of_blocks forks = record { head = forks.head; blocks = map (λ block. block.header) forks.blocks }

-- at the start the head is alone, with the empty state and no changes
abbrev pub first_fork : ForkState
first_fork = record { head = zero_digest; blocks = record { header = record { id = zero_digest; prev = zero_digest; height = 0 }; state = empty; changes = empty } ∷ [] }

-- ---- blocks by their ids

-- the first block with an id, if there is one
unfoldable pub block_at : List Block → List ℕ → Option Block
block_at blocks id = find (λ block. bytes_eq id block.header.id) blocks

-- the state of a live block
abbrev pub state_at : ForkState → List ℕ → Option State
state_at forks id = option_map (λ block. block.state) (block_at forks.blocks id)

-- the changes that a live block keeps
abbrev pub changes_at : ForkState → List ℕ → Option Changes
changes_at forks id = option_map (λ block. block.changes) (block_at forks.blocks id)

-- a state with the changes of blocks laid over, one block after the other
unfoldable pub laid_along : ForkState → List (List ℕ) → State → State
laid_along forks [] state = state
laid_along forks (id ∷ ids) state = laid_along forks ids (after state (unwrap_or (changes_at forks id) empty))

-- how many keys all live blocks but the head keep changes of
unfoldable pub kept_changes : ForkState → ℕ
kept_changes forks = sum_by (λ block. length (entries block.changes)) (filter (λ block. not (bytes_eq forks.head block.header.id)) forks.blocks)

-- ---- a block is offered

-- the state that a block's changes make, where its prev is live
abbrev pub state_over : ForkState → (prev : List ℕ) → Changes → Option State
state_over forks prev changes = option_map (λ state. after state changes) (state_at forks prev)

abbrev pub behind_blocks : ForkState → Header → Changes → Option State → ForkState
behind_blocks forks header changes None = forks
behind_blocks forks header changes (Some state) = record forks { blocks = forks.blocks ++ record { header = header; state = state; changes = changes } ∷ [] }

-- with a block accepted, behind those that are live
unfoldable pub with_block : ForkState → Header → Changes → ForkState
with_block forks header changes = behind_blocks forks header changes (state_over forks header.prev changes)

-- A refused block leaves the blocks.
abbrev pub with_block_unless : Option BlockFault → ForkState → Header → Changes → ForkState
with_block_unless None forks header changes = with_block forks header changes
with_block_unless (Some fault) forks header changes = forks

unfoldable pub after_offer : ℕ → ForkState → Header → Changes → ForkState
after_offer most forks header changes = with_block_unless (block_fault most (tree_of_blocks forks) header) forks header changes

-- ---- the head moves

-- Moved to a live block, the head is that block, and it and its descendants stay. What is passed and dropped is told by the tree.
unfoldable pub head_moved : ForkState → List ℕ → ForkState
head_moved forks id = record { head = id; blocks = filter (λ block. descends (tree_of_blocks forks) id block.header.id) forks.blocks }

-- A move to a block that is not live leaves the blocks.
unfoldable pub after_head : ForkState → List ℕ → ForkState
after_head forks id = if is_live (tree_of_blocks forks) id then head_moved forks id else forks

-- ---- what holds of all blocks that came about so

-- a block's state is that of its prev with its changes laid over
abbrev pub IsLaidOver : Option Block → Block → Type 0
IsLaidOver prev block = IsSomeAnd prev (λ prev. block.state ≡ after prev.state block.changes)

pub record IsForkState (forks : ForkState) : Type 0 where
  pub tree : IsTree (tree_of_blocks forks)
  pub states : (id : List ℕ) → bytes_eq id forks.head ≡ false → IfSome (block_at forks.blocks id) (λ block. IsLaidOver (block_at forks.blocks block.header.prev) block)
