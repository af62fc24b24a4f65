-- A history: live blocks over forks, and the block that is being told. What each event of a script does to it, what is replied, and which lines are refused.
use Rattle.std.specs.Prelude.{ℕ, ◌&&◌, nat_le, not, List, [], ◌++◌, length, codes, Bool, true, false, Option, None, Some, if◌then◌else◌}
use Rattle.std.specs.Fmt.{decimal}
use Rattle.std.specs.FinMap.{empty, insert, contains_key, len}
use Rattle.hex.specs.Hex.{encode_lower}
use Rattle.script_model.specs.Lines as line
use Rattle.script_model.specs.Lines.{Event}
use Rattle.trie_model.specs.State.{State}
use Rattle.trie_model.specs.Root as trie
use Rattle.batch_model.specs.Changes.{Changes}
use Rattle.fork_model.specs.Trees.{Header, BlockFault, known, no_prev, not_higher, full, is_live, passed, dropped}
use Rattle.fork_model.specs.States.{ForkState, first_fork, tree_of_blocks, with_block, head_moved}
use Rattle.count_model.specs.BlockEnds.{BlockEnd, faulty, clashing, too_many, accepted, block_end}
use Rattle.count_model.specs.Loads.{Access, carry_out, look_up, tell_usage, no_texts, loads}
use Rattle.output_model.specs.Ends.{Output, RunLimits, line_of, syntax_at, clash_at}
use Rattle.output_model.specs.Scripts.{Step, goes_on, ends, Script}
use Rattle.output_model.specs.Readings.{flat_line, trie_line, same_line, usage_line, stats_line}

-- the block that is being told, with its changes so far
pub record OpenBlock : Type 0 where
  pub header : Header
  pub changes : Changes

pub record History : Type 0 where
  pub forks : ForkState
  pub opened : Option OpenBlock

abbrev pub no_history : History
no_history = record { forks = first_fork; opened = None }

-- between two blocks
abbrev pub outside : ForkState → History
outside forks = record { forks = forks; opened = None }

abbrev pub inside : ForkState → Header → Changes → History
inside forks header changes = record { forks = forks; opened = Some (record { header = header; changes = changes }) }

-- ---- a block is told

-- the change of a key, if the block may change it, and else the line is refused
abbrev pub changed : RunLimits → (number : ℕ) → ForkState → OpenBlock → (key : List ℕ) → Option (List ℕ) → Step History
changed limits number forks opened key value =
    if nat_le limits.changes (len opened.changes) && not (contains_key opened.changes key)
    then ends (syntax_at number) else goes_on [] (inside forks opened.header (insert opened.changes key value))

-- why a block is refused by its header, or since no further one may be live
abbrev pub fault_name : BlockFault → List ℕ
fault_name known = codes "known"
fault_name no_prev = codes "no-prev"
fault_name not_higher = codes "height"
fault_name full = codes "full-blocks"

-- `block ID ok ROOT`, with the root of the state that it makes
abbrev pub block_ok : Header → State → List ℕ
block_ok header state = line_of (codes "block " ++ encode_lower header.id ++ codes " ok " ++ encode_lower (trie.root state))

-- `block ID refused NAME`
abbrev pub block_not : Header → List ℕ → List ℕ
block_not header name = line_of (codes "block " ++ encode_lower header.id ++ codes " refused " ++ name)

-- A block is accepted at its end, unless it is refused, which leaves the live blocks, or its texts clash, which ends the run.
abbrev pub offered : BlockEnd → ForkState → Header → Changes → Step History
offered (faulty fault) forks header changes = goes_on (block_not header (fault_name fault)) (outside forks)
offered (clashing digest) forks header changes = ends (clash_at digest)
offered too_many forks header changes = goes_on (block_not header (codes "full-pairs")) (outside forks)
offered (accepted state) forks header changes = goes_on (block_ok header state) (outside (with_block forks header changes))

abbrev pub end_of_block : RunLimits → ForkState → OpenBlock → BlockEnd
end_of_block limits forks opened = block_end limits.pairs limits.blocks forks opened.header opened.changes

-- ---- the head moves

-- `head ID ok PASSED DROPPED`, with how many blocks are passed and how many dropped
abbrev pub head_ok : ForkState → List ℕ → List ℕ
head_ok forks id = line_of (codes "head " ++ encode_lower id ++ codes " ok " ++ decimal (length (passed (tree_of_blocks forks) id)) ++ codes " " ++ decimal (length (dropped (tree_of_blocks forks) id)))

abbrev pub head_not : List ℕ → List ℕ
head_not id = line_of (codes "head " ++ encode_lower id ++ codes " refused not-live")

abbrev pub head_step : ForkState → List ℕ → Step History
head_step forks id =
    if is_live (tree_of_blocks forks) id then goes_on (head_ok forks id) (outside (head_moved forks id)) else goes_on (head_not id) (outside forks)

-- ---- each event

-- between two blocks
abbrev pub outside_step : (number : ℕ) → ForkState → Event → Step History
outside_step number forks line.nothing = goes_on [] (outside forks)
outside_step number forks (line.block id prev height) = goes_on [] (inside forks (record { id = id; prev = prev; height = height }) empty)
outside_step number forks (line.set key value) = ends (syntax_at number)
outside_step number forks (line.delete key) = ends (syntax_at number)
outside_step number forks line.block_end = ends (syntax_at number)
outside_step number forks (line.head id) = head_step forks id
outside_step number forks (line.flat id key) = goes_on (flat_line forks id key) (outside forks)
outside_step number forks (line.trie id key) = goes_on (trie_line forks id key) (outside forks)
outside_step number forks (line.same a b) = goes_on (same_line forks a b) (outside forks)
outside_step number forks (line.usage id) = goes_on (usage_line forks id) (outside forks)
outside_step number forks line.stats = goes_on (stats_line forks) (outside forks)

-- in a block
abbrev pub inside_step : RunLimits → (number : ℕ) → ForkState → OpenBlock → Event → Step History
inside_step limits number forks opened line.nothing = goes_on [] (inside forks opened.header opened.changes)
inside_step limits number forks opened (line.block id prev height) = ends (syntax_at number)
inside_step limits number forks opened (line.set key value) = changed limits number forks opened key (Some value)
inside_step limits number forks opened (line.delete key) = changed limits number forks opened key None
inside_step limits number forks opened line.block_end = offered (end_of_block limits forks opened) forks opened.header opened.changes
inside_step limits number forks opened (line.head id) = ends (syntax_at number)
inside_step limits number forks opened (line.flat id key) = ends (syntax_at number)
inside_step limits number forks opened (line.trie id key) = ends (syntax_at number)
inside_step limits number forks opened (line.same a b) = ends (syntax_at number)
inside_step limits number forks opened (line.usage id) = ends (syntax_at number)
inside_step limits number forks opened line.stats = ends (syntax_at number)

abbrev pub step_by : RunLimits → (number : ℕ) → ForkState → Option OpenBlock → Event → Step History
step_by limits number forks None asked = outside_step number forks asked
step_by limits number forks (Some opened) asked = inside_step limits number forks opened asked

unfoldable pub history_step : RunLimits → (number : ℕ) → History → Event → Step History
history_step limits number history asked = step_by limits number history.forks history.opened asked

-- ---- behind the last line

-- A script may not end in a block. Where it does not, the last request is answered over the live blocks.
abbrev pub last_by : (ForkState → Output) → (number : ℕ) → ForkState → Option OpenBlock → Output
last_by request number forks None = request forks
last_by request number forks (Some opened) = syntax_at number

unfoldable pub history_last : (ForkState → Output) → (number : ℕ) → History → Output
history_last request number history = last_by request number history.forks history.opened

-- ---- what is loaded

-- a reading of a live block
abbrev pub reading_access : Event → Access
reading_access line.nothing = no_texts
reading_access (line.block id prev height) = no_texts
reading_access (line.set key value) = no_texts
reading_access (line.delete key) = no_texts
reading_access line.block_end = no_texts
reading_access (line.head id) = no_texts
reading_access (line.flat id key) = no_texts
reading_access (line.trie id key) = look_up id key
reading_access (line.same a b) = no_texts
reading_access (line.usage id) = tell_usage id
reading_access line.stats = no_texts

-- a block at its end
abbrev pub block_access : OpenBlock → Event → Access
block_access opened line.nothing = no_texts
block_access opened (line.block id prev height) = no_texts
block_access opened (line.set key value) = no_texts
block_access opened (line.delete key) = no_texts
block_access opened line.block_end = carry_out opened.header opened.changes
block_access opened (line.head id) = no_texts
block_access opened (line.flat id key) = no_texts
block_access opened (line.trie id key) = no_texts
block_access opened (line.same a b) = no_texts
block_access opened (line.usage id) = no_texts
block_access opened line.stats = no_texts

-- ---- the script of a history

-- A history is told with a reply to each event, or quietly: then blocks and head moves are carried out without a reply, and readings are skipped, which load nothing.
abbrev pub told_step : (quiet : Bool) → Step History → Step History
told_step false step = step
told_step true (goes_on reply after) = goes_on [] after
told_step true (ends output) = ends output

abbrev pub access_of : (quiet : Bool) → Option OpenBlock → Event → Access
access_of quiet None asked = if quiet then no_texts else reading_access asked
access_of quiet (Some opened) asked = block_access opened asked

-- the last request is answered between blocks
abbrev pub last_access : Access → Option OpenBlock → Access
last_access access None = access
last_access access (Some opened) = no_texts

unfoldable pub event_loads : (quiet : Bool) → RunLimits → History → Event → ℕ
event_loads quiet limits history asked = loads limits.blocks history.forks (access_of quiet history.opened asked)

unfoldable pub request_loads : RunLimits → Access → History → ℕ
request_loads limits access history = loads limits.blocks history.forks (last_access access history.opened)

-- with a last request over the live blocks, and what it asks of their tries
abbrev pub history_script : (quiet : Bool) → RunLimits → (ForkState → Output) → Access → Script History
history_script quiet limits request access = record {
  begin = no_history;
  step = λ number history asked. told_step quiet (history_step limits number history asked);
  last = history_last request;
  step_loads = event_loads quiet limits;
  last_loads = request_loads limits access;
}
