-- What a run may write and how it then ends, how many texts it loads, and which blocks are live in the end: one function of its limits, the command words and the bytes of the input. There is one output, but for `replay`: two things of it are free where its input is not the recording of a state.
use Rattle.std.specs.Prelude.{◌≡◌, ℕ, List, Option, None, Some, if◌then◌else◌}
use Rattle.script_model.specs.Words.{Op, Command, root, apply, get, prove, replay, command_of}
use Rattle.fork_model.specs.States.{ForkState, first_fork}
use Rattle.output_model.specs.Ends.{Output, RunLimits, bad_command}
use Rattle.output_model.specs.Scripts.{Outcome, script_outcome}
use Rattle.output_model.specs.Root.{root_output}
use Rattle.output_model.specs.Histories.{History}
use Rattle.output_model.specs.Apply.{apply_script}
use Rattle.output_model.specs.Get.{get_script}
use Rattle.output_model.specs.Prove.{prove_script, changes_in, changes_too_many, full_changes, reads_in}
use Rattle.output_model.specs.Replay.{IsReplayOutput}

-- an output without a load, that leaves no block but the first head
abbrev pub without_blocks : Output → Outcome ForkState
without_blocks output = record { output = output; loaded = 0; left = first_fork }

-- a block that is being told is not live
abbrev pub live_behind : Outcome History → Outcome ForkState
live_behind outcome = record { output = outcome.output; loaded = outcome.loaded; left = outcome.left.forks }

-- What may become of a run: which outputs it may have, how many texts it loads, and which blocks are live in the end.
pub record RunOutcome : Type 1 where
  pub IsOutput : Output → Type 0
  pub loaded : ℕ
  pub left : ForkState

-- with one output
abbrev pub one_outcome : Outcome ForkState → RunOutcome
one_outcome outcome = record { IsOutput = λ output. output ≡ outcome.output; loaded = outcome.loaded; left = outcome.left }

-- no store of texts but the recording's own is looked into
abbrev pub replay_outcome : List ℕ → RunOutcome
replay_outcome input = record { IsOutput = IsReplayOutput input; loaded = 0; left = first_fork }

-- Changes of too many keys are refused before anything is read.
abbrev pub prove_outcome : RunLimits → (id : List ℕ) (ops : List Op) → (input : List ℕ) → Outcome ForkState
prove_outcome limits id ops input =
    if changes_too_many limits ops then without_blocks full_changes
    else live_behind (script_outcome (prove_script limits id (reads_in ops) (changes_in ops)) input)

abbrev pub command_outcome : RunLimits → Option Command → List ℕ → RunOutcome
command_outcome limits None input = one_outcome (without_blocks bad_command)
command_outcome limits (Some root) input = one_outcome (without_blocks (root_output limits input))
command_outcome limits (Some apply) input = one_outcome (live_behind (script_outcome (apply_script limits) input))
command_outcome limits (Some (get id key)) input = one_outcome (live_behind (script_outcome (get_script limits id key) input))
command_outcome limits (Some (prove id ops)) input = one_outcome (prove_outcome limits id ops input)
command_outcome limits (Some replay) input = replay_outcome input

unfoldable pub outcome_of : RunLimits → List (List ℕ) → List ℕ → RunOutcome
outcome_of limits words input = command_outcome limits (command_of words) input

abbrev pub IsOutputOf : RunLimits → List (List ℕ) → List ℕ → Output → Type 0
IsOutputOf limits words input output = (outcome_of limits words input).IsOutput output
