-- How the status of a run and the bytes that it wrote stand to the output that is defined.
use Rattle.std.specs.Prelude.{◌≡◌, ℕ, List, ◌++◌, Option, None, Some, IfSome, Result, Ok, Err, ◌⊎◌}
use Rattle.base_core.specs.declared.limits.Limits.{Limits}
use Rattle.base_core.specs.Faults as ended
use Rattle.base_core.specs.Faults.{Ended, risen}
use Rattle.output_model.specs.Ends.{Output, Ending, RunLimits, done, usage, syntax, refused, clash}
use Rattle.script_io.specs.Streams.{AppendsPrefix}
use Rattle.shard_cmd.specs.declared.status.Status.{Status}
use Rattle.shard_cmd.specs.declared.status.Status.TheVariants.{Done, NoMemory, Usage, Syntax, Refused, ReadFault, WriteFault, StoreFault, Clash}

-- the limits as the definition of the output has them
abbrev pub run_limits : Limits → RunLimits
run_limits limits = record { pairs = limits.pairs; blocks = limits.blocks; changes = limits.changes }

-- the ending that a status stands for, unless memory or an object of the outside failed
abbrev pub ending_of : Status → Option Ending
ending_of Done = Some done
ending_of NoMemory = None
ending_of Usage = Some usage
ending_of Syntax = Some syntax
ending_of Refused = Some refused
ending_of ReadFault = None
ending_of WriteFault = None
ending_of StoreFault = None
ending_of Clash = Some clash

-- The status is the defined ending, and all defined bytes were written and nothing else. Where memory or an object of the outside failed, a prefix of them was.
abbrev pub EndsAs : Output → Option Ending → List ℕ → Option (List ℕ) → Type 0
EndsAs output (Some ending) before after = (ending ≡ output.ending) × (after ≡ Some (before ++ output.bytes))
EndsAs output None before after = AppendsPrefix before after output.bytes

-- The status is the defined ending, unless memory or an object of the outside failed.
abbrev pub HasEnding : Output → Option Ending → Type 0
HasEnding output ending = IfSome ending (λ e. e ≡ output.ending)

-- The same of a run that may have several outputs: it has one of them. Where memory or an object of the outside failed, nothing was written, or a prefix of one.
abbrev pub EndsAsOne : (Output → Type 0) → Option Ending → List ℕ → Option (List ℕ) → Type 0
EndsAsOne IsOutput (Some ending) before after = (output : Output) × IsOutput output × EndsAs output (Some ending) before after
EndsAsOne IsOutput None before after = (after ≡ Some before) ⊎ ((output : Output) × IsOutput output × EndsAs output None before after)

abbrev pub HasOneEnding : (Output → Type 0) → Option Ending → Type 0
HasOneEnding IsOutput ending = IfSome ending (λ e. (output : Output) × IsOutput output × (e ≡ output.ending))

-- what a run may end with whose words are no command
abbrev pub IsUsageUnlessFailed : Status → Type 0
IsUsageUnlessFailed status = (status ≡ Usage) ⊎ (status ≡ WriteFault)

-- what a run may end with that carries out a command and does not fail
abbrev pub IsAnswer : Status → Type 0
IsAnswer status = (status ≡ Done) ⊎ (status ≡ Syntax) ⊎ (status ≡ Refused)

-- and one that carries out a recording
abbrev pub IsReplayAnswer : Status → Type 0
IsReplayAnswer status = IsAnswer status ⊎ (status ≡ Clash)

-- what keeps a run from an answer before it writes one
abbrev pub IsFailure : Status → Type 0
IsFailure status = (status ≡ NoMemory) ⊎ (status ≡ ReadFault)

-- ---- the counts of faults

-- how a run ended for its source
abbrev pub source_ended : Status → Ended
source_ended Done = ended.done
source_ended NoMemory = ended.short_of_memory
source_ended Usage = ended.refused
source_ended Syntax = ended.refused
source_ended Refused = ended.refused
source_ended ReadFault = ended.failed
source_ended WriteFault = ended.done
source_ended StoreFault = ended.done
source_ended Clash = ended.refused

-- how a run ended for its sink
abbrev pub sink_ended : Status → Ended
sink_ended Done = ended.done
sink_ended NoMemory = ended.short_of_memory
sink_ended Usage = ended.done
sink_ended Syntax = ended.done
sink_ended Refused = ended.done
sink_ended ReadFault = ended.done
sink_ended WriteFault = ended.failed
sink_ended StoreFault = ended.done
sink_ended Clash = ended.done

-- how a run ended for its store
abbrev pub store_ended : Status → Ended
store_ended Done = ended.done
store_ended NoMemory = ended.short_of_memory
store_ended Usage = ended.done
store_ended Syntax = ended.done
store_ended Refused = ended.done
store_ended ReadFault = ended.done
store_ended WriteFault = ended.done
store_ended StoreFault = ended.failed
store_ended Clash = ended.done

-- how reading the input ended for its source, where there may be an answer
abbrev pub reading_ended : {X : Type 0} → Result X Status → Ended
reading_ended (Ok answer) = ended.done
reading_ended (Err status) = source_ended status

-- What the source counts then. Where the sink failed the source may have failed just before, as replies are written that were due.
abbrev pub SourceCounts : Status → (before now : ℕ) → Type 0
SourceCounts Done before now = now ≡ before
SourceCounts NoMemory before now = now ≡ before
SourceCounts Usage before now = now ≡ before
SourceCounts Syntax before now = now ≡ before
SourceCounts Refused before now = now ≡ before
SourceCounts ReadFault before now = now ≡ risen before 1
SourceCounts WriteFault before now = (now ≡ before) ⊎ (now ≡ risen before 1)
SourceCounts StoreFault before now = now ≡ before
SourceCounts Clash before now = now ≡ before

-- And what the store counts.
abbrev pub StoreCounts : Status → (before now : ℕ) → Type 0
StoreCounts Done before now = now ≡ before
StoreCounts NoMemory before now = now ≡ before
StoreCounts Usage before now = now ≡ before
StoreCounts Syntax before now = now ≡ before
StoreCounts Refused before now = now ≡ before
StoreCounts ReadFault before now = now ≡ before
StoreCounts WriteFault before now = (now ≡ before) ⊎ (now ≡ risen before 1)
StoreCounts StoreFault before now = now ≡ risen before 1
StoreCounts Clash before now = now ≡ before

-- how a run ended for the loads of its store: where memory or an object of the outside failed, they may be fewer than all
abbrev pub run_ended : Status → Ended
run_ended Done = ended.done
run_ended NoMemory = ended.short_of_memory
run_ended Usage = ended.refused
run_ended Syntax = ended.refused
run_ended Refused = ended.refused
run_ended ReadFault = ended.failed
run_ended WriteFault = ended.failed
run_ended StoreFault = ended.failed
run_ended Clash = ended.refused

-- The last bytes of a run were written, and it has this status; or the sink failed.
abbrev pub FinishesAs : (status ended : Status) (before now : ℕ) → Type 0
FinishesAs status ended before now = ((ended ≡ status) × (now ≡ before)) ⊎ ((ended ≡ WriteFault) × (now ≡ risen before 1))

-- All bytes were written, and the run ends so; or a prefix of them was, and the sink failed.
abbrev pub IsWritten : (status ended : Status) (bytes before : List ℕ) (after : Option (List ℕ)) → Type 0
IsWritten status ended bytes before after = ((ended ≡ status) × (after ≡ Some (before ++ bytes))) ⊎ ((ended ≡ WriteFault) × AppendsPrefix before after bytes)

-- How a run ends whose history has ended with a status. Where memory or the sink failed nothing more is written.
abbrev pub WritesLast : (status ended : Status) (bytes : List ℕ) (before after : Option (List ℕ)) (faults now : ℕ) → Type 0
WritesLast status ended bytes before after faults now = FinishesAs status ended faults now × IfSome before (λ b. IsWritten status ended bytes b after)

abbrev pub WritesNone : (status ended : Status) (before after : Option (List ℕ)) (faults now : ℕ) → Type 0
WritesNone status ended before after faults now = (ended ≡ status) × (after ≡ before) × (now ≡ faults)

abbrev pub Finishes : (status ended : Status) (bytes : List ℕ) (before after : Option (List ℕ)) (faults now : ℕ) → Type 0
Finishes Done ended bytes before after faults now = WritesLast Done ended bytes before after faults now
Finishes NoMemory ended bytes before after faults now = WritesNone NoMemory ended before after faults now
Finishes Usage ended bytes before after faults now = WritesLast Usage ended bytes before after faults now
Finishes Syntax ended bytes before after faults now = WritesLast Syntax ended bytes before after faults now
Finishes Refused ended bytes before after faults now = WritesLast Refused ended bytes before after faults now
Finishes ReadFault ended bytes before after faults now = WritesLast ReadFault ended bytes before after faults now
Finishes WriteFault ended bytes before after faults now = WritesNone WriteFault ended before after faults now
Finishes StoreFault ended bytes before after faults now = WritesLast StoreFault ended bytes before after faults now
Finishes Clash ended bytes before after faults now = WritesLast Clash ended bytes before after faults now
