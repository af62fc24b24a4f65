-- How many texts are loaded by what a history asks of the tries of live blocks (this project's own). This is the exact number that a run has to load, which a definition of its events sums up.
use Rattle.std.specs.Prelude.{ℕ, ◌+◌, ◌==◌, List, [], ◌∷◌, length, Option, None, Some, if◌then◌else◌}
use Rattle.std.specs.FinMap.{empty, contains_key, len}
use Rattle.trie_model.specs.State.{State}
use Rattle.batch_model.specs.Changes.{Changes}
use Rattle.change_model.specs.Places.{touched_places}
use Rattle.fork_model.specs.Trees.{Header, BlockFault, block_fault}
use Rattle.fork_model.specs.States.{ForkState, tree_of_blocks, state_at}
use Rattle.count_model.specs.Counts.{in_state}

-- ---- of a state

-- a batch: each touched place
abbrev pub batch_loads : State → Changes → ℕ
batch_loads state changes = length (touched_places state [] changes)

-- a key that is looked up: each touched place, and the value if the state has one
abbrev pub lookup_loads : State → (key : List ℕ) → ℕ
lookup_loads state key = length (touched_places state (key ∷ []) empty) + (if contains_key state key then 1 else 0)

-- a recording: each read in turn, as a key that is looked up, and the batch behind them
unfoldable pub recording_loads : State → (reads : List (List ℕ)) → Changes → ℕ
recording_loads state [] changes = batch_loads state changes
recording_loads state (key ∷ reads) changes = lookup_loads state key + recording_loads state reads changes

-- the usage: the root's text, if there is one
abbrev pub usage_loads : State → ℕ
usage_loads state = if len state == 0 then 0 else 1

-- ---- over live blocks

-- What an event or the last request asks of tries: to carry out a block at its end, to look a key up in a live block's trie, to record what some reads and a batch touch there, to tell a live block's usage, or no text, as every other event.
pub data Access : Type 0 where
  carry_out : Header → Changes → Access
  look_up : (id key : List ℕ) → Access
  record_texts : (id : List ℕ) (reads : List (List ℕ)) → Changes → Access
  tell_usage : (id : List ℕ) → Access
  no_texts : Access

-- Of a block that is refused by its id, prev or height, or since no further one may be live, nothing is loaded. Of any other block its batch is carried out, also where it is refused afterwards.
abbrev pub block_loads : Option BlockFault → Option State → Changes → ℕ
block_loads (Some fault) prev changes = 0
block_loads None prev changes = in_state (λ state. batch_loads state changes) prev

-- Where at most so many blocks may be live. What is asked of a block that is not live is refused without a load.
unfoldable pub loads : (most : ℕ) → ForkState → Access → ℕ
loads most forks (carry_out header changes) = block_loads (block_fault most (tree_of_blocks forks) header) (state_at forks header.prev) changes
loads most forks (look_up id key) = in_state (λ state. lookup_loads state key) (state_at forks id)
loads most forks (record_texts id reads changes) = in_state (λ state. recording_loads state reads changes) (state_at forks id)
loads most forks (tell_usage id) = in_state usage_loads (state_at forks id)
loads most forks no_texts = 0
