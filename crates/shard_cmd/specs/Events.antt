-- What comes of asking for the next event of a script.
use Rattle.std.specs.Prelude.{◌≡◌, ◌≢◌, ℕ, ◌+◌, ◌<◌, ◌≤◌, List, [], ◌++◌, length, nat_le, not, ◌&&◌, Bool, if◌then◌else◌, Option, None, Some, IsSome, Result, Ok, Err, ◌⊎◌}
use Rattle.std.specs.FinMap.{len, contains_key}
use Rattle.base_core.specs.Faults as ended
use Rattle.base_core.specs.Faults.{Ended}
use Rattle.base_core.specs.PairMaps.{PairMap, laid}
use Rattle.script_model.specs.Lines as lines
use Rattle.script_model.specs.Lines.{event_if, first_fault, first_line, first_feed, behind_line, longest_input}
use Rattle.output_model.specs.Ends.{Output, syntax_at, full_pairs}
use Rattle.output_model.specs.Root.{root_done}
use Rattle.trie_model.specs.State.{State}
use Rattle.script_io.specs.declared.event.Event.{Event}
use Rattle.script_io.specs.LinesStates.{LinesState, IsOpen}
use Rattle.script_io.specs.Meanings.{event}
use Rattle.script_io.specs.declared.event.EventError.{EventError}
use Rattle.script_io.specs.declared.event.EventError.TheVariants as event_error
use Rattle.script_io.specs.declared.line_error.LineError.{LineError}
use Rattle.script_io.specs.declared.line_error.LineError.TheVariants as line
use Rattle.shard_cmd.specs.declared.events.Stop.{Stop}
use Rattle.shard_cmd.specs.declared.events.Stop.TheVariants as stop
use Rattle.shard_cmd.specs.declared.root.End.{End}
use Rattle.shard_cmd.specs.declared.root.End.TheVariants.{Whole, Syntax, Full}
use Rattle.shard_cmd.specs.declared.status.Status.{Status}
use Rattle.shard_cmd.specs.declared.status.Status.TheVariants as status

-- what the first line of these bytes asks for, if it is read and is one of a script
abbrev pub first_event : (before : ℕ) (bytes : List ℕ) → Option lines.Event
first_event before bytes = event_if (first_fault before bytes) (first_line bytes)

-- the first line of what was left asks for this, and what comes behind it is left
pub record Asks (bytes : List ℕ) (old new : LinesState) (left : Option (List ℕ)) (asked : lines.Event) : Type 0 where
  pub some : length bytes ≢ 0
  pub asked_is : first_event old.before bytes ≡ Some asked
  pub before : new.before ≡ old.before + length (first_line bytes) + first_feed bytes
  pub behind : (rest : List ℕ) × (left ≡ Some rest) × (new.pending ++ rest ≡ behind_line bytes)

-- What comes of asking. Memory is to blame only where the line asks for an event, or where more bytes were needed to tell.
abbrev pub NextIs : (bytes : List ℕ) (old new : LinesState) (left : Option (List ℕ)) → Result (Option Event) Stop → Type 0
NextIs bytes old new left (Ok None) = (bytes ≡ []) × (left ≡ Some [])
NextIs bytes old new left (Ok (Some asked)) = Asks bytes old new left (event asked)
NextIs bytes old new left (Err stop.Syntax) = (length bytes ≢ 0) × (first_event old.before bytes ≡ None)
NextIs bytes old new left (Err stop.ReadFault) = Unit {0}
NextIs bytes old new left (Err stop.NoMemory) = IsSome (first_event old.before bytes) ⊎ IsOpen new.before new.pending

-- which stop an error of a line is, and which an error of an event
abbrev pub line_stop : LineError → Stop
line_stop line.Long = stop.Syntax
line_stop line.Past = stop.Syntax
line_stop line.ReadFault = stop.ReadFault
line_stop line.NoMemory = stop.NoMemory

abbrev pub event_stop : EventError → Stop
event_stop event_error.Bad = stop.Syntax
event_stop event_error.NoMemory = stop.NoMemory

-- whose doing it is that there is no next event
abbrev pub event_ended : {X : Type 0} → Result X Stop → Ended
event_ended (Ok found) = ended.done
event_ended (Err stop.Syntax) = ended.refused
event_ended (Err stop.ReadFault) = ended.failed
event_ended (Err stop.NoMemory) = ended.short_of_memory

-- one more line was handed out
pub record IsNext (old new : LinesState) : Type 0 where
  pub lines : new.lines ≡ old.lines + 1
  pub progress : old.before < new.before
  pub bounded : new.before ≤ longest_input

-- the output at the end of a script, where it left the pairs of this state
abbrev pub end_output : End → State → Output
end_output Whole state = root_done state
end_output (Syntax number) state = syntax_at number
end_output Full state = full_pairs

-- how a script ends that stops at the line with this number
abbrev pub stopped_at : Stop → ℕ → Result End Status
stopped_at stop.Syntax number = Ok (Syntax number)
stopped_at stop.ReadFault number = Err status.ReadFault
stopped_at stop.NoMemory number = Err status.NoMemory

-- whether there is no room for a pair of this key
abbrev pub is_full : PairMap → List ℕ → Bool
is_full held key = nat_le held.most (len held.state) && not (contains_key held.state key)

-- how a script ends at what the line with this number asks for, if it does: a pair has no room, or the line is one of blocks
abbrev pub ends_at : (number : ℕ) → PairMap → lines.Event → Option End
ends_at number held lines.nothing = None
ends_at number held (lines.block id prev height) = Some (Syntax number)
ends_at number held (lines.set key value) = if is_full held key then Some Full else None
ends_at number held (lines.delete key) = Some (Syntax number)
ends_at number held lines.block_end = Some (Syntax number)
ends_at number held (lines.head id) = Some (Syntax number)
ends_at number held (lines.flat id key) = Some (Syntax number)
ends_at number held (lines.trie id key) = Some (Syntax number)
ends_at number held (lines.same a b) = Some (Syntax number)
ends_at number held (lines.usage id) = Some (Syntax number)
ends_at number held lines.stats = Some (Syntax number)

-- what is held once an event was done
abbrev pub after_event : PairMap → lines.Event → PairMap
after_event held lines.nothing = held
after_event held (lines.block id prev height) = held
after_event held (lines.set key value) = laid held key value
after_event held (lines.delete key) = held
after_event held lines.block_end = held
after_event held (lines.head id) = held
after_event held (lines.flat id key) = held
after_event held (lines.trie id key) = held
after_event held (lines.same a b) = held
after_event held (lines.usage id) = held
after_event held lines.stats = held

-- What an event asks for was done, and the script goes on; or it ends there, and nothing was done.
abbrev pub Lays : (number : ℕ) (old new : PairMap) → lines.Event → Option End → Type 0
Lays number old new asked None = (ends_at number old asked ≡ None) × (new ≡ after_event old asked)
Lays number old new asked (Some end) = (ends_at number old asked ≡ Some end) × (new ≡ old)
