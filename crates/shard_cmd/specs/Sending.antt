-- Replies that are gathered before they are written, and how far a run has come with its outcome.
use Rattle.std.specs.Prelude.{◌≡◌, ℕ, ◌≤◌, List, [], ◌++◌, Option, None, Some, IfSome, ◌⊎◌}
use Rattle.base_core.specs.Faults.{risen}
use Rattle.fork_model.specs.States.{ForkState}
use Rattle.count_model.specs.Loads.{Access, loads}
use Rattle.output_model.specs.Ends.{Output, Ending, RunLimits, syntax, clash, syntax_at, clash_at}
use Rattle.output_model.specs.Scripts.{Outcome, onward}
use Rattle.output_model.specs.Histories.{History, outside}
use Rattle.script_io.specs.Streams.{AppendsPrefix}
use Rattle.base_core.specs.declared.hash.Digest.{Digest}
use Rattle.shard_cmd.specs.declared.events.Stop.{Stop}
use Rattle.shard_cmd.specs.declared.events.Stop.TheVariants as stop
use Rattle.shard_cmd.specs.declared.history.Opened.{Opened}
use Rattle.shard_cmd.specs.declared.history.Halt.{Halt}
use Rattle.shard_cmd.specs.declared.history.Halt.TheVariants as halt
use Rattle.shard_cmd.specs.declared.status.Status.{Status}
use Rattle.shard_cmd.specs.declared.status.Status.TheVariants as status

-- Of these bytes some were written, behind what stood there, and the rest is kept.
abbrev pub Sends : (before after : Option (List ℕ)) (bytes kept : List ℕ) → Type 0
Sends before after bytes kept = IfSome before (λ b. (sent : List ℕ) × (after ≡ Some (b ++ sent)) × (bytes ≡ sent ++ kept))

-- what a store had loaded before, and what it has now
pub record Loads : Type 0 where
  pub before : ℕ
  pub now : ℕ

-- an outcome is that of a last step, behind the replies to all steps before it and their loads; of the replies some were written and the rest is kept
pub record Reaches {S : Type 0} (outcome last : Outcome S) (before after : Option (List ℕ)) (kept : List ℕ) (counts : Loads) : Type 0 where
  pub replies : List ℕ
  pub loaded : ℕ
  pub outcome_is : outcome ≡ onward replies loaded last
  pub sends : Sends before after replies kept
  pub counted : counts.now ≡ risen counts.before loaded

-- the loads are at most those of the outcome
pub record IsWithin {S : Type 0} (outcome : Outcome S) (counts : Loads) : Type 0 where
  pub least : counts.before ≤ counts.now
  pub most : counts.now ≤ risen counts.before outcome.loaded

-- what is written and kept is a prefix of the outcome's bytes
pub record Stops {S : Type 0} (outcome : Outcome S) (before after : Option (List ℕ)) (kept : List ℕ) (counts : Loads) : Type 0 where
  pub replies : List ℕ
  pub last : Output
  pub bytes : outcome.output.bytes ≡ replies ++ last.bytes
  pub sends : Sends before after replies kept
  pub within : IsWithin outcome counts

-- what is written is one
pub record Fails {S : Type 0} (outcome : Outcome S) (before after : Option (List ℕ)) (counts : Loads) : Type 0 where
  pub written : IfSome before (λ b. AppendsPrefix b after outcome.output.bytes)
  pub within : IsWithin outcome counts

-- a script has ended so, with nothing more to write and to load
abbrev pub ended_with : Ending → History → Outcome History
ended_with ending left = record { output = record { bytes = []; ending = ending }; loaded = 0; left = left }

-- the last request is answered over these blocks
abbrev pub request_at : RunLimits → (ForkState → Output) → Access → ForkState → Outcome History
request_at limits request access forks = record { output = request forks; loaded = loads limits.blocks forks access; left = outside forks }

-- how far the writing of an outcome came when reading its history ended with a status
abbrev pub EndsHistory : RunLimits → (ForkState → Output) → Access → (outcome : Outcome History) (IsOf : ForkState → Type 0) (before after : Option (List ℕ)) (kept : List ℕ) → Loads → Status → Type 0
EndsHistory limits request access outcome IsOf before after kept counts status.Done = (forks : ForkState) × Reaches outcome (request_at limits request access forks) before after kept counts × IsOf forks
EndsHistory limits request access outcome IsOf before after kept counts status.NoMemory = Fails outcome before after counts
EndsHistory limits request access outcome IsOf before after kept counts status.Usage = ⊥
EndsHistory limits request access outcome IsOf before after kept counts status.Syntax = (left : History) × Reaches outcome (ended_with syntax left) before after kept counts × IsOf left.forks
EndsHistory limits request access outcome IsOf before after kept counts status.Refused = ⊥
EndsHistory limits request access outcome IsOf before after kept counts status.ReadFault = Stops outcome before after kept counts
EndsHistory limits request access outcome IsOf before after kept counts status.WriteFault = Fails outcome before after counts
EndsHistory limits request access outcome IsOf before after kept counts status.StoreFault = Stops outcome before after kept counts
EndsHistory limits request access outcome IsOf before after kept counts status.Clash = (left : History) × Reaches outcome (ended_with clash left) before after kept counts

-- ---- how a script ends

-- with a status alone, or with a line that is put behind the replies
pub data End : Type 0 where
  plain : Status → End
  with_line : (line : List ℕ) → Status → End

abbrev pub syntax_end : (number : ℕ) → End
syntax_end number = with_line (syntax_at number).bytes status.Syntax

abbrev pub clash_end : Digest → End
clash_end digest = with_line (clash_at digest.0).bytes status.Clash

-- The line was put and this is the status, or memory failed.
abbrev pub IsPut : End → (before after : List ℕ) → Status → Type 0
IsPut (plain given) before after ended = (ended ≡ given) × (after ≡ before)
IsPut (with_line line given) before after ended = ((ended ≡ given) × (after ≡ before ++ line)) ⊎ (ended ≡ status.NoMemory)

-- behind the last line, which may not be one of a block
abbrev pub whole_end : Option Opened → (number : ℕ) → End
whole_end None number = plain status.Done
whole_end (Some opened) number = syntax_end number

abbrev pub stopped_end : Stop → (number : ℕ) → End
stopped_end stop.Syntax number = syntax_end number
stopped_end stop.ReadFault number = plain status.ReadFault
stopped_end stop.NoMemory number = plain status.NoMemory

abbrev pub halted_end : Halt → (number : ℕ) → End
halted_end halt.Syntax number = syntax_end number
halted_end (halt.Clash digest) number = clash_end digest
halted_end halt.StoreFault number = plain status.StoreFault
halted_end halt.NoMemory number = plain status.NoMemory
