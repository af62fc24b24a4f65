-- A history as it is held: a shard of live blocks, and the block that is being told. What lines make of it.
use Rattle.std.specs.Prelude.{◌≡◌, ℕ, Bool, false, List, ◌++◌, codes, Option, None, IfSome, Result, Ok, Err, ⊤}
use Rattle.std.specs.Option.{option_map}
use Rattle.std.specs.Borrow.{Bor}
use Rattle.base_core.specs.Faults as ended
use Rattle.base_core.specs.Faults.{Ended, faults_after}
use Rattle.base_core.specs.declared.fault.Fault.{Fault}
use Rattle.base_core.specs.declared.hash.Digest.{Digest}
use Rattle.script_model.specs.Lines as lines
use Rattle.fork_model.specs.Trees.{Header}
use Rattle.fork_model.specs.States.{ForkState}
use Rattle.count_model.specs.Loads.{Access, loads}
use Rattle.text_store.specs.Store.{Store}
use Rattle.text_store.specs.Leaves.{CountsLoads}
use Rattle.shard_core.specs.Shards.{IsShardOf, ShardState}
use Rattle.shard_core.specs.declared.errors.ApplyError.{ApplyError}
use Rattle.shard_core.specs.declared.errors.ApplyError.TheVariants as apply_error
use Rattle.output_model.specs.Ends.{Output, RunLimits, syntax_at, clash_at}
use Rattle.output_model.specs.Scripts.{goes_on, ends}
use Rattle.output_model.specs.Histories.{OpenBlock, History, history_step, told_step, event_loads}
use Rattle.shard_cmd.specs.declared.history.Opened.{Opened}
use Rattle.shard_cmd.specs.declared.history.Halt.{Halt}
use Rattle.shard_cmd.specs.declared.history.Halt.TheVariants as halt
use Rattle.shard_cmd.specs.Ends.{run_limits}

abbrev pub header_of : (id prev : Digest) (height : ℕ) → Header
header_of id prev height = record { id = id.0; prev = prev.0; height = height }

abbrev pub open_of : Opened → OpenBlock
open_of opened = record { header = header_of opened.id opened.prev opened.height; changes = opened.changes.changes }

abbrev pub history_of : ForkState → Option Opened → History
history_of forks opened = record { forks = forks; opened = option_map open_of opened }

-- a block that is being told may change no more keys than a run allows
abbrev pub IsOpened : RunLimits → Option Opened → Type 0
IsOpened limits opened = IfSome opened (λ opened. opened.changes.most ≡ limits.changes)

-- how a line ended, for the store
abbrev pub step_ended : {X : Type 0} → Result X Halt → Ended
step_ended (Ok next) = ended.done
step_ended (Err halt.Syntax) = ended.refused
step_ended (Err (halt.Clash digest)) = ended.refused
step_ended (Err halt.StoreFault) = ended.failed
step_ended (Err halt.NoMemory) = ended.short_of_memory

-- ---- what a line does

-- The script goes on behind a line, with a shard of these blocks, and its reply stands behind the others.
pub record GoesOn (quiet : Bool) (limits : RunLimits) (forks : ForkState) (opened : Option Opened) (asked : lines.Event) (IsOf : ForkState → Type 0) (before after : List ℕ) (next : Option Opened) : Type 0 where
  pub forks_then : ForkState
  pub reply : List ℕ
  pub step : (number : ℕ) → told_step quiet (history_step limits number (history_of forks opened) asked) ≡ goes_on reply (history_of forks_then next)
  pub replied : after ≡ before ++ reply
  pub shard : IsOf forks_then
  pub is_opened : IsOpened limits next

-- The script ends at a line, which has no reply.
pub record EndsAt (quiet : Bool) (limits : RunLimits) (forks : ForkState) (opened : Option Opened) (asked : lines.Event) (output : ℕ → Output) (before after : List ℕ) : Type 0 where
  pub step : (number : ℕ) → told_step quiet (history_step limits number (history_of forks opened) asked) ≡ ends (output number)
  pub unreplied : after ≡ before

-- what a line does to a history, by what it comes to
abbrev pub Does : (quiet : Bool) → RunLimits → ForkState → Option Opened → lines.Event → (IsOf : ForkState → Type 0) → (before after : List ℕ) → Result (Option Opened) Halt → Type 0
Does quiet limits forks opened asked IsOf before after (Ok next) = GoesOn quiet limits forks opened asked IsOf before after next
Does quiet limits forks opened asked IsOf before after (Err halt.Syntax) = EndsAt quiet limits forks opened asked syntax_at before after × IsOf forks
Does quiet limits forks opened asked IsOf before after (Err (halt.Clash digest)) = EndsAt quiet limits forks opened asked (λ number. clash_at digest.0) before after
Does quiet limits forks opened asked IsOf before after (Err halt.StoreFault) = after ≡ before
Does quiet limits forks opened asked IsOf before after (Err halt.NoMemory) = ⊤

-- a shard of these blocks, that no call has stopped
pub record IsGoing {N : Type 0} (store : Store N) (count_of : N → List ℕ → ℕ) (limits : RunLimits) (shard : ShardState N) (forks : ForkState) : Type 0 where
  pub of : IsShardOf store count_of forks shard
  pub going : shard.stopped ≡ false
  pub limits_are : run_limits shard.limits ≡ limits

-- What a line does, what it loads, and what the store counts.
pub record Steps {N : Type 0} (store : Store N) (count_of : N → List ℕ → ℕ) (quiet : Bool) (limits : RunLimits) (forks : ForkState) (opened : Option Opened) (asked : lines.Event) (old new : ShardState N) (before after : List ℕ) (result : Result (Option Opened) Halt) : Type 0 where
  pub does : Does quiet limits forks opened asked (IsGoing store count_of limits new) before after result
  pub loads : CountsLoads (step_ended result) (store.loads old.nodes) (store.loads new.nodes) (event_loads quiet limits (history_of forks opened) asked)
  pub faults : store.faults new.nodes ≡ faults_after (step_ended result) (store.faults old.nodes)

-- ---- what is read

-- a line is put behind the others, unless the store or memory failed
abbrev pub Answers : (before after line : List ℕ) → Result Unit Halt → Type 0
Answers before after line (Ok done) = after ≡ before ++ line
Answers before after line (Err halt.Syntax) = ⊥
Answers before after line (Err (halt.Clash digest)) = ⊥
Answers before after line (Err halt.StoreFault) = after ≡ before
Answers before after line (Err halt.NoMemory) = ⊤

-- A reading leaves a shard of the same blocks, with these loads.
pub record Reads {N : Type 0} (store : Store N) (count_of : N → List ℕ → ℕ) (limits : RunLimits) (forks : ForkState) (access : Access) (old new : ShardState N) (before after line : List ℕ) (result : Result Unit Halt) : Type 0 where
  pub answers : Answers before after line result
  pub shard : IsGoing store count_of limits new forks
  pub counted : CountsLoads (step_ended result) (store.loads old.nodes) (store.loads new.nodes) (loads limits.blocks forks access)
  pub faults : store.faults new.nodes ≡ faults_after (step_ended result) (store.faults old.nodes)

-- ---- results by results

abbrev pub gathered_as : Result Unit Fault → Result Unit Halt
gathered_as (Ok done) = Ok done
gathered_as (Err fault) = Err halt.NoMemory

-- no block is being told behind what was replied to
abbrev pub outside_as : Result Unit Halt → Result (Option Opened) Halt
outside_as (Ok done) = Ok None
outside_as (Err why) = Err why

-- a name that is lent
abbrev pub named : Result (Bor (List ℕ)) Halt → Result (List ℕ) Halt
named (Ok name) = Ok name.now
named (Err why) = Err why

-- the name by which a block is refused, or why the script does not go on
abbrev pub refusal_of : ApplyError → Result (List ℕ) Halt
refusal_of apply_error.Stopped = Err halt.NoMemory
refusal_of apply_error.Known = Ok (codes "known")
refusal_of apply_error.NoPrev = Ok (codes "no-prev")
refusal_of apply_error.Height = Ok (codes "height")
refusal_of apply_error.FullBlocks = Ok (codes "full-blocks")
refusal_of apply_error.FullPairs = Ok (codes "full-pairs")
refusal_of (apply_error.Clash digest) = Err (halt.Clash digest)
refusal_of apply_error.StoreFault = Err halt.StoreFault
refusal_of apply_error.NoMemory = Err halt.NoMemory

-- a reading is skipped between blocks, where a history is told quietly
abbrev pub skipped : lines.Event → lines.Event
skipped lines.nothing = lines.nothing
skipped (lines.block id prev height) = lines.block id prev height
skipped (lines.set key value) = lines.set key value
skipped (lines.delete key) = lines.delete key
skipped lines.block_end = lines.block_end
skipped (lines.head id) = lines.head id
skipped (lines.flat id key) = lines.nothing
skipped (lines.trie id key) = lines.nothing
skipped (lines.same a b) = lines.nothing
skipped (lines.usage id) = lines.nothing
skipped lines.stats = lines.nothing
