-- The tree of live blocks, seen by ids, prevs and heights alone (this project's own, with head moves after nearcore's flat storage).
use Rattle.std.specs.Prelude.{◌≡◌, ℕ, ◌<◌, nat_le, List, [], ◌∷◌, ◌++◌, length, map, reverse, drop, Bool, not, ◌&&◌, Option, None, Some, is_some, if◌then◌else◌}
use Rattle.std.specs.Option.{option_map, IsSomeAnd}
use Rattle.std.specs.List.{filter, find, list_any}
use Rattle.std.specs.Str.{bytes_eq}
use Rattle.trie_model.specs.Root.{zero_digest}

-- a block as the tree sees it
pub record Header : Type 0 where
  pub id : List ℕ
  pub prev : List ℕ
  pub height : ℕ

-- the id of the head, and the live blocks in the order in which they were accepted, the head among them
pub record BlockTree : Type 0 where
  pub head : List ℕ
  pub blocks : List Header

-- At the start the head is alone. Its prev is of no account.
abbrev pub start : BlockTree
start = record { head = zero_digest; blocks = record { id = zero_digest; prev = zero_digest; height = 0 } ∷ [] }

-- ---- blocks by their ids

-- the first block with an id, if there is one
unfoldable pub block_of : List Header → List ℕ → Option Header
block_of blocks id = find (λ block. bytes_eq id block.id) blocks

abbrev pub is_live : BlockTree → List ℕ → Bool
is_live tree id = is_some (block_of tree.blocks id)

-- the prev of a live block that is not the head
abbrev pub prev_of : BlockTree → List ℕ → Option (List ℕ)
prev_of tree id = if bytes_eq id tree.head then None else option_map (λ block. block.prev) (block_of tree.blocks id)

abbrev pub ids_of : List Header → List (List ℕ)
ids_of blocks = map (λ block. block.id) blocks

abbrev pub is_among : List ℕ → List (List ℕ) → Bool
is_among id ids = list_any (bytes_eq id) ids

-- ---- lines of descent

-- The blocks that lead to a block, by their ids: those that lead to its prev, and itself. The newest of the blocks comes first, and the prev of a block is sought among older ones, since it was live when the block was accepted.
unfoldable pub leading : List Header → List ℕ → List (List ℕ)
leading [] id = []
leading (block ∷ older) id = if bytes_eq id block.id then leading older block.prev ++ id ∷ [] else leading older id

-- the blocks from the head to a live block, by their ids
unfoldable pub line : BlockTree → List ℕ → List (List ℕ)
line tree id = leading (reverse tree.blocks) id

-- whether a live block is that of an id, or descends from it
unfoldable pub descends : BlockTree → (from id : List ℕ) → Bool
descends tree from id = is_among from (line tree id)

-- ---- a block is offered

pub data BlockFault : Type 0 where
  known : BlockFault
  no_prev : BlockFault
  not_higher : BlockFault
  full : BlockFault

-- what is wrong with a height over the prev that was found, and with one block more than are live
abbrev pub fault_over : (most live height : ℕ) → Option Header → Option BlockFault
fault_over most live height None = Some no_prev
fault_over most live height (Some prev) = if nat_le height prev.height then Some not_higher else (if nat_le most live then Some full else None)

-- Why a block is refused, where at most so many blocks may be live: its id is live; its prev is not; it is not higher than its prev; no further block may be live. The first of these counts.
unfoldable pub block_fault : ℕ → BlockTree → Header → Option BlockFault
block_fault most tree block = if is_live tree block.id then Some known else fault_over most (length tree.blocks) block.height (block_of tree.blocks block.prev)

-- with a block accepted, behind those that are live
abbrev pub grown : BlockTree → Header → BlockTree
grown tree block = record tree { blocks = tree.blocks ++ block ∷ [] }

-- A refused block leaves the tree.
abbrev pub grown_unless : Option BlockFault → BlockTree → Header → BlockTree
grown_unless None tree block = grown tree block
grown_unless (Some fault) tree block = tree

unfoldable pub after_block : ℕ → BlockTree → Header → BlockTree
after_block most tree block = grown_unless (block_fault most tree block) tree block

-- ---- the head moves

-- Moved to a live block, the head is that block, and it and its descendants stay, in the order in which they were accepted.
unfoldable pub moved : BlockTree → List ℕ → BlockTree
moved tree id = record { head = id; blocks = filter (λ block. descends tree id block.id) tree.blocks }

-- A move to a block that is not live leaves the tree.
unfoldable pub after_move : BlockTree → List ℕ → BlockTree
after_move tree id = if is_live tree id then moved tree id else tree

-- what a move passes: the blocks after the old head up to the new one, in order
unfoldable pub passed : BlockTree → List ℕ → List (List ℕ)
passed tree id = drop 1 (line tree id)

-- What a move drops, in the order of acceptance: each block that is neither on the line to the new head nor a descendant of it.
unfoldable pub dropped : BlockTree → List ℕ → List (List ℕ)
dropped tree id = filter (λ other. not (is_among other (line tree id)) && not (descends tree id other)) (ids_of tree.blocks)

-- ---- what holds of every tree that came about so

-- what a block meets that is accepted behind others
pub record Follows (older : List Header) (block : Header) : Type 0 where
  pub new : block_of older block.id ≡ None
  pub higher : IsSomeAnd (block_of older block.prev) (λ prev. prev.height < block.height)

-- The newest comes first: each met that when it was accepted, and the oldest is the head.
abbrev pub AreGrown : (head : List ℕ) → List Header → Type 0
AreGrown head [] = ⊥
AreGrown head (block ∷ []) = head ≡ block.id
AreGrown head (block ∷ older ∷ rest) = Follows (older ∷ rest) block × AreGrown head (older ∷ rest)

pub record IsTree (tree : BlockTree) : Type 0 where
  pub grown : AreGrown tree.head (reverse tree.blocks)
