-- The command `root`: the root and the memory usage of the state that a script of `set` lines makes, a later line for a key deciding.
use Rattle.std.specs.Prelude.{ℕ, ◌&&◌, nat_le, not, List, [], ◌++◌, codes, if◌then◌else◌}
use Rattle.std.specs.Fmt.{decimal}
use Rattle.std.specs.FinMap.{empty, insert, contains_key, len}
use Rattle.hex.specs.Hex.{encode_lower}
use Rattle.script_model.specs.Lines as line
use Rattle.script_model.specs.Lines.{Event}
use Rattle.trie_model.specs.State.{State}
use Rattle.trie_model.specs.Root as trie
use Rattle.output_model.specs.Ends.{Output, done, RunLimits, line_of, full_pairs, syntax_at}
use Rattle.output_model.specs.Scripts.{Step, goes_on, ends, Script, script_output}

-- `root ROOT USAGE`, the root in 64 lower case digits and the usage in decimal
unfoldable pub root_line : State → List ℕ
root_line state = line_of (codes "root " ++ encode_lower (trie.root state) ++ codes " " ++ decimal (trie.total state))

abbrev pub root_done : State → Output
root_done state = record { bytes = root_line state; ending = done }

-- A pair is laid over, where its key is not new or there is room for one more. It has no reply. Lines of blocks are refused. Nothing is loaded.
abbrev pub root_step : RunLimits → (number : ℕ) → State → Event → Step State
root_step limits number state line.nothing = goes_on [] state
root_step limits number state (line.set key value) =
    if nat_le limits.pairs (len state) && not (contains_key state key) then ends full_pairs else goes_on [] (insert state key value)
root_step limits number state (line.block id prev height) = ends (syntax_at number)
root_step limits number state (line.delete key) = ends (syntax_at number)
root_step limits number state line.block_end = ends (syntax_at number)
root_step limits number state (line.head id) = ends (syntax_at number)
root_step limits number state (line.flat id key) = ends (syntax_at number)
root_step limits number state (line.trie id key) = ends (syntax_at number)
root_step limits number state (line.same a b) = ends (syntax_at number)
root_step limits number state (line.usage id) = ends (syntax_at number)
root_step limits number state line.stats = ends (syntax_at number)

abbrev pub root_script : RunLimits → Script State
root_script limits = record { begin = empty; step = root_step limits; last = λ number. root_done; step_loads = λ state asked. 0; last_loads = λ state. 0 }

abbrev pub root_output : RunLimits → List ℕ → Output
root_output limits input = script_output (root_script limits) input
