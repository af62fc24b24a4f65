-- What is kept of the live blocks: the map of the head, and the changes of each other block (this project's own, after nearcore's flat storage).
use Rattle.std.specs.Prelude.{◌≡◌, ℕ, true, List, [], ◌∷◌, sum_by, length, Option, None, Some, is_some, if◌then◌else◌, refl}
use Rattle.std.specs.Option.{unwrap_or}
use Rattle.std.specs.Ordering.{nat_cmp}
use Rattle.std.specs.Cmp.Lexicographic.{slice_cmp}
use Rattle.std.specs.Str.{bytes_eq}
use Rattle.std.specs.FinMap as map
use Rattle.std.specs.FinMap.{FinMap, entries, empty, get}
use Rattle.std.specs.Coded.{Coded, code_by, coded×, coded_ℕ, coded_list, coded_option}
use Rattle.trie_model.specs.State.{State}
use Rattle.batch_model.specs.Changes.{Changes, after}
use Rattle.fork_model.specs.Trees.{BlockTree, is_among, is_live, passed, prev_of}
use Rattle.fork_model.specs.States.{ForkState, IsForkState, changes_at, state_at, tree_of_blocks}

-- the changes of blocks, by their ids
abbrev pub Deltas : Type 0
Deltas = FinMap (slice_cmp nat_cmp) Changes

-- The map of the head, the changes of the other live blocks, and for how many further ones there is room.
pub record FlatState : Type 0 where
  pub head : State
  pub deltas : Deltas
  pub spare : ℕ

abbrev pub flat_state_code : Coded FlatState
flat_state_code =
    code_by (State × (Deltas × ℕ))
    (coded× (map.code (coded_list coded_ℕ) (coded_list coded_ℕ)) (coded× (map.code (coded_list coded_ℕ) (map.code (coded_list coded_ℕ) (coded_option (coded_list coded_ℕ)))) coded_ℕ))
    (λ s. (s.head, (s.deltas, s.spare)))
    (λ p. record { head = p.0; deltas = p.1.0; spare = p.1.1 })
    (λ _. refl)

-- ---- with a tree

-- the blocks with changes are the live blocks but the head
abbrev pub HasSameBlocks : BlockTree → Deltas → Type 0
HasSameBlocks tree deltas = (id : List ℕ) → is_some (get deltas id) ≡ is_some (prev_of tree id)

-- the changes of a block, and none of a block that has none
abbrev pub delta_of : Deltas → List ℕ → Changes
delta_of deltas id = unwrap_or (get deltas id) empty

-- a map with the changes of blocks laid over, one block after the other
unfoldable pub laid_over : Deltas → List (List ℕ) → State → State
laid_over deltas [] state = state
laid_over deltas (id ∷ ids) state = laid_over deltas ids (after state (delta_of deltas id))

-- The map of a live block: that of the head, with the changes of all blocks laid over that a move to it passes.
abbrev pub map_of : FlatState → BlockTree → List ℕ → State
map_of flat tree id = laid_over flat.deltas (passed tree id) flat.head

-- The key has in the map of the block where the way stands what it has in that of the block at its begin.
pub record IsOnWay (tree : BlockTree) (flat : FlatState) (key id at : List ℕ) : Type 0 where
  pub told : get (map_of flat tree at) key ≡ get (map_of flat tree id) key
  pub first : is_live tree id ≡ true
  pub live : is_live tree at ≡ true

-- what is left of a block's changes, where those of some blocks go
abbrev pub left_of : (gone : List (List ℕ)) → (id : List ℕ) → Option Changes → Option Changes
left_of gone id changes = if is_among id gone then None else changes

-- how many keys the blocks change, each block by itself
unfoldable pub keys_changed : Deltas → ℕ
keys_changed deltas = sum_by (λ delta. length (entries delta.1)) (entries deltas)

-- ---- with states

-- the changes that are kept of a block: those of the head are not
abbrev pub kept_of : ForkState → List ℕ → Option Changes
kept_of forks id = if bytes_eq id forks.head then None else changes_at forks id

-- what is kept of some live blocks with their states
pub record IsFlatOf (forks : ForkState) (flat : FlatState) : Type 0 where
  pub head : state_at forks forks.head ≡ Some flat.head
  pub deltas : (id : List ℕ) → get flat.deltas id ≡ kept_of forks id

-- a tree and what is kept are of the same live blocks with their states
pub record AreOfOne (tree : BlockTree) (flat : FlatState) : Type 0 where
  pub blocks : ForkState
  pub well : IsForkState blocks
  pub shape : tree_of_blocks blocks ≡ tree
  pub kept : IsFlatOf blocks flat
