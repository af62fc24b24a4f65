-- The command `get`: what a key has at a live block behind a history of blocks that is told quietly, in flat storage and in the trie.
use Rattle.std.specs.Prelude.{ℕ, true, List, ◌++◌, Option, None, Some}
use Rattle.trie_model.specs.State.{State}
use Rattle.fork_model.specs.States.{ForkState, state_at}
use Rattle.count_model.specs.Loads.{look_up}
use Rattle.output_model.specs.Ends.{Output, RunLimits, done, not_live}
use Rattle.output_model.specs.Scripts.{Script}
use Rattle.output_model.specs.Readings.{flat_line, trie_line}
use Rattle.output_model.specs.Histories.{History, history_script}

-- both lines, where the block is live
abbrev pub get_from : ForkState → (id key : List ℕ) → Option State → Output
get_from forks id key None = not_live
get_from forks id key (Some state) = record { bytes = flat_line forks id key ++ trie_line forks id key; ending = done }

unfoldable pub get_request : (id key : List ℕ) → ForkState → Output
get_request id key forks = get_from forks id key (state_at forks id)

abbrev pub get_script : RunLimits → (id key : List ℕ) → Script History
get_script limits id key = history_script true limits (get_request id key) (look_up id key)
