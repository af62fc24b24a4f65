-- How a run ends, by what was written last.
use Rattle.std.proofs.Common.{◌≡◌, ◌≢◌, ◌≤◌, ℕ, List, length, map, true, Option, Some, None, Result, Ok, IfOk, IfSome, inl, inr, refl, sym, subst, ◌∙◌, arith}
use Rattle.base_core.specs.declared.hash.Digest.{Digest}
use Rattle.std.specs.List.{AllByRecursion}
use Rattle.std.proofs.lemmas.List.{length-map}
use Rattle.fork_model.specs.States.{ForkState}
use Rattle.text_store.specs.Store.{Store}
use Rattle.text_store.specs.Leaves.{CountsLoads}
use Rattle.script_model.specs.Bounds.{IsCommanded, IsKey, IsOp}
use Rattle.script_model.specs.Words as word
use Rattle.output_model.specs.Prove.{changes_too_many}
use Rattle.script_model.specs.Words.{Command, command_of, most_operations}
use Rattle.output_model.specs.Scripts.{Outcome}
use Rattle.output_model.specs.Root.{root_output}
use Rattle.output_model.specs.Ends.{Output, Ending, RunLimits}
use Rattle.output_model.specs.Output.{RunOutcome, outcome_of, one_outcome, command_outcome}
use Rattle.output_model.specs.Replay.{IsReplayOutput}
use Rattle.script_io.specs.declared.command.Command.{Command as Asked}
use Rattle.script_io.specs.declared.command.Command.TheVariants.{Get, Prove}
use Rattle.script_io.specs.declared.op_list.Op.{Op}
use Rattle.script_io.specs.Meanings.{command, op}
use Rattle.shard_cmd.specs.declared.reply.Reply.{Reply}
use Rattle.shard_cmd.specs.declared.status.Status.{Status}
use Rattle.shard_cmd.specs.declared.status.Status.TheVariants as status
use Rattle.shard_cmd.specs.Ends.{ending_of, EndsAs, EndsAsOne, HasEnding, HasOneEnding, FinishesAs, IsFailure, StoreCounts, run_ended}
use Rattle.shard_cmd.specs.HandedBack.{EndsRun, HoldsBlocks, IfSettled}
use Rattle.shard_cmd.specs.Replies.{IsReply, IsOneReply}

-- what the last writing of a reply makes of the run
pub ends_with_reply : (limits : RunLimits) (left written after : Option (List ℕ)) (reply : Reply) (bytes : List ℕ) (ending : Option Ending)
    → IfSome left (λ input. IsReply (root_output limits input) reply) → bytes ≡ reply.bytes
    → ((output : Output) → bytes ≡ output.bytes → ending_of reply.status ≡ Some output.ending → IfSome written (λ before. EndsAs output ending before after))
    → IfSome left (λ input. IfSome written (λ before. EndsAs (root_output limits input) ending before after))
ends_with_reply limits None written after reply bytes ending is same ends = tt
ends_with_reply limits (Some input) written after reply bytes ending is same ends = ends (root_output limits input) (same ∙ is.bytes) is.ending

-- what holds of what becomes of the command that the words are
pub by_command : (P : RunOutcome → Type 0) (limits : RunLimits) (words : List (List ℕ)) (left : Option (List ℕ)) (o : Option Command) → command_of words ≡ o
    → IfSome left (λ input. P (command_outcome limits o input)) → IfSome left (λ input. P (outcome_of limits words input))
unfolding outcome_of
by_command P limits words None o e h = tt
by_command P limits words (Some input) o e h = subst (λ (c : Option Command). P (command_outcome limits c input)) (sym e) h

-- the last bytes of a run are written
pub has_ending : (output : Output) (status end : Status) (before now : ℕ) → ending_of status ≡ Some output.ending → FinishesAs status end before now → HasEnding output (ending_of end)
has_ending output status end before now e (inl written) = rw (written.0, e) refl
has_ending output status end before now e (inr fault) = rw fault.0 tt

-- ---- one of several outputs

pub ends_one : (IsOutput : Output → Type 0) (output : Output) (ending : Option Ending) (before : List ℕ) (after : Option (List ℕ)) → IsOutput output → EndsAs output ending before after → EndsAsOne IsOutput ending before after
ends_one IsOutput output None before after is e = inr (output, is, e)
ends_one IsOutput output (Some ending) before after is e = (output, is, e)

pub has_one : (IsOutput : Output → Type 0) (output : Output) (ending : Option Ending) → IsOutput output → HasEnding output ending → HasOneEnding IsOutput ending
has_one IsOutput output None is e = tt
has_one IsOutput output (Some ending) is e = (output, is, e)

-- a command with one output
pub ends_alone : (output : Output) (ending : Option Ending) (written after : Option (List ℕ)) → IfSome written (λ before. EndsAs output ending before after) → IfSome written (λ before. EndsAsOne (λ o. o ≡ output) ending before after)
ends_alone output ending None after h = tt
ends_alone output ending (Some before) after h = ends_one (λ o. o ≡ output) output ending before after refl h

pub has_alone : (output : Output) (ending : Option Ending) → HasEnding output ending → HasOneEnding (λ o. o ≡ output) ending
has_alone output ending h = has_one (λ o. o ≡ output) output ending refl h

-- ---- a reply to a recording

pub ends_with_one : (left written after : Option (List ℕ)) (reply : Reply) (bytes : List ℕ) (ending : Option Ending)
    → IfSome left (λ input. IsOneReply (IsReplayOutput input) reply) → bytes ≡ reply.bytes
    → ((output : Output) → bytes ≡ output.bytes → ending_of reply.status ≡ Some output.ending → IfSome written (λ before. EndsAs output ending before after))
    → IfSome left (λ input. IfSome written (λ before. EndsAsOne (IsReplayOutput input) ending before after))
ends_with_one None written after reply bytes ending is same ends = tt
ends_with_one (Some input) None after reply bytes ending is same ends = tt
ends_with_one (Some input) (Some before) after reply bytes ending is same ends = ends_one (IsReplayOutput input) is.output ending before after is.may_be (ends is.output (same ∙ is.is.bytes) is.is.ending)

pub has_one_reply : (left : Option (List ℕ)) (reply : Reply) (end : Status) (before now : ℕ) → IfSome left (λ input. IsOneReply (IsReplayOutput input) reply) → FinishesAs reply.status end before now → IfSome left (λ input. HasOneEnding (IsReplayOutput input) (ending_of end))
has_one_reply None reply end before now is finished = tt
has_one_reply (Some input) reply end before now is finished = has_one (IsReplayOutput input) is.output (ending_of end) is.may_be (has_ending is.output reply.status end before now is.is.ending finished)

-- where there is no answer nothing was written
pub failed_one : (left written : Option (List ℕ)) (status : Status) → IsFailure status → IfSome left (λ input. IfSome written (λ before. EndsAsOne (IsReplayOutput input) (ending_of status) before written))
failed_one None written status f = tt
failed_one (Some input) None status f = tt
failed_one (Some input) (Some before) status (inl e) = rw e (inl refl)
failed_one (Some input) (Some before) status (inr e) = rw e (inl refl)

pub has_failed : (left : Option (List ℕ)) (status : Status) → IsFailure status → IfSome left (λ input. HasOneEnding (IsReplayOutput input) (ending_of status))
has_failed None status f = tt
has_failed (Some input) status (inl e) = rw e tt
has_failed (Some input) status (inr e) = rw e tt

pub told : (left : Option (List ℕ)) {P : Type 0} → P → IfSome left (λ _. P)
told None h = tt
told (Some input) h = h

-- the command that was read is that of the words
pub command_read : {E : Type 0} (words : List (List ℕ)) (r : Result Asked E) (found : Asked) → r ≡ Ok found → IfOk r (λ f. command_of words ≡ Some (command f)) → command_of words ≡ Some (command found)
command_read {E} words r found is h = subst (λ (r : Result Asked E). IfOk r (λ f. command_of words ≡ Some (command f))) is h

-- of an input that the source tells
pub by_input : (left : Option (List ℕ)) (P Q : List ℕ → Type 0) → ((input : List ℕ) → P input → Q input) → IfSome left P → IfSome left Q
by_input None P Q f h = tt
by_input (Some input) P Q f h = f input h

pub each_input : (left : Option (List ℕ)) (Q : List ℕ → Type 0) → ((input : List ℕ) → Q input) → IfSome left Q
each_input None Q f = tt
each_input (Some input) Q f = f input

-- a store that was not called
pub store_same : (s : Status) (faults : ℕ) → s ≢ status.StoreFault → StoreCounts s faults faults
store_same status.Done faults n = refl
store_same status.NoMemory faults n = refl
store_same status.Usage faults n = refl
store_same status.Syntax faults n = refl
store_same status.Refused faults n = refl
store_same status.ReadFault faults n = refl
store_same status.WriteFault faults n = inl refl
store_same status.StoreFault faults n = absurd (n refl)
store_same status.Clash faults n = refl

-- a count does not fall
pub store_fell : (s : Status) (faults now : ℕ) → StoreCounts s faults now → faults ≤ now
store_fell status.Done faults now e = omega (arith, e)
store_fell status.NoMemory faults now e = omega (arith, e)
store_fell status.Usage faults now e = omega (arith, e)
store_fell status.Syntax faults now e = omega (arith, e)
store_fell status.Refused faults now e = omega (arith, e)
store_fell status.ReadFault faults now e = omega (arith, e)
store_fell status.WriteFault faults now (inl e) = omega (arith, e)
store_fell status.WriteFault faults now (inr e) = omega (arith, e)
store_fell status.StoreFault faults now e = omega (arith, e)
store_fell status.Clash faults now e = omega (arith, e)

-- the key that the words of `get` name
pub got_key : {E : Type 0} (r : Result Asked E) (id : Digest) (key : List ℕ) → r ≡ Ok (Get id key) → IfOk r (λ found. IsCommanded (command found)) → IsKey key
unfolding IsCommanded
got_key {E} r id key is h = (subst (λ (r : Result Asked E). IfOk r (λ found. IsCommanded (command found))) is h).1

-- and the operations of `prove`
pub asked_ops : {E : Type 0} (r : Result Asked E) (id : Digest) (ops : List Op) → r ≡ Ok (Prove id ops) → IfOk r (λ found. IsCommanded (command found)) → AllByRecursion IsOp (map op ops) × (1 ≤ length (map op ops)) × (length (map op ops) ≤ most_operations)
unfolding IsCommanded
asked_ops {E} r id ops is h = let all = subst (λ (r : Result Asked E). IfOk r (λ found. IsCommanded (command found))) is h in (all.1, all.2, all.3)

pub few_asked : (ops : List Op) → length (map op ops) ≤ most_operations → length ops ≤ most_operations
few_asked ops few = subst (λ n. n ≤ most_operations) (length-map ops op) few

pub same_ops : (limits : RunLimits) (id other : List ℕ) (ops asked : List word.Op) → Some (word.prove id ops) ≡ Some (word.prove other asked) → changes_too_many limits ops ≡ true → changes_too_many limits asked ≡ true
same_ops limits id other ops asked e many = let same : ops ≡ asked = cc in subst (λ (l : List word.Op). changes_too_many limits l ≡ true) same many

-- ---- a command with one output and a store

module _ {N : Type 0} (store : Store N) (count_of : N → List ℕ → ℕ) (limits : RunLimits) (words : List (List ℕ)) (left : Option (List ℕ)) (o : Option Command) (out : List ℕ → Outcome ForkState) (is : command_of words ≡ o) (one : (input : List ℕ) → command_outcome limits o input ≡ one_outcome (out input))
    (old new : N) (written after : Option (List ℕ)) (end : Status) (ends : IfSome left (λ input. EndsRun store count_of (out input) old new written after end)) where
  of_outcome : (P : RunOutcome → Type 0) → ((input : List ℕ) → EndsRun store count_of (out input) old new written after end → P (one_outcome (out input))) → IfSome left (λ input. P (outcome_of limits words input))
  of_outcome P f =
      by_command P limits words left o is
      (by_input left (λ input. EndsRun store count_of (out input) old new written after end) (λ input. P (command_outcome limits o input)) (λ input e. subst (λ (r : RunOutcome). P r) (sym (one input)) (f input e)) ends)

  pub run-output : IfSome left (λ input. IfSome written (λ before. EndsAsOne (outcome_of limits words input).IsOutput (ending_of end) before after))
  run-output = of_outcome (λ outcome. IfSome written (λ before. EndsAsOne outcome.IsOutput (ending_of end) before after)) (λ input e. ends_alone (out input).output (ending_of end) written after e.output)

  pub run-status : IfSome left (λ input. HasOneEnding (outcome_of limits words input).IsOutput (ending_of end))
  run-status = of_outcome (λ outcome. HasOneEnding outcome.IsOutput (ending_of end)) (λ input e. has_alone (out input).output (ending_of end) e.ending)

  pub run-counts : IfSome left (λ input. IfSettled end (HoldsBlocks (store.texts new) (count_of new) (outcome_of limits words input).left))
  run-counts = of_outcome (λ outcome. IfSettled end (HoldsBlocks (store.texts new) (count_of new) outcome.left)) (λ input e. e.counts)

  pub run-loads : IfSome left (λ input. CountsLoads (run_ended end) (store.loads old) (store.loads new) (outcome_of limits words input).loaded)
  run-loads = of_outcome (λ outcome. CountsLoads (run_ended end) (store.loads old) (store.loads new) outcome.loaded) (λ input e. e.loads)
