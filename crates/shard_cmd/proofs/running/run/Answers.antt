use Rattle.std.proofs.Common.{◌≡◌, map, refl, sym, ap, ◌∙◌, Ok, Err, Some, None, IfSome}
use Rattle.script_io.specs.declared.command.Command.TheVariants.{Root, Apply, Get, Prove, Replay}
use Rattle.script_model.specs.Words.{root, apply, get, prove, replay}
use Rattle.script_io.specs.Meanings.{op}
use Rattle.text_store.specs.Leaves.{CountsLoads}
use Rattle.output_model.specs.Ends.{bad_command}
use Rattle.output_model.specs.Scripts.{script_outcome}
use Rattle.output_model.specs.Apply.{apply_script}
use Rattle.output_model.specs.Get.{get_script}
use Rattle.output_model.specs.Root.{root_output}
use Rattle.output_model.specs.Output.{live_behind, prove_outcome}
use Rattle.shard_cmd.specs.Ends.{ending_of, run_ended, run_limits, EndsAs, EndsAsOne, HasEnding, HasOneEnding}
use Rattle.shard_cmd.specs.declared.status.Status.TheVariants.{Usage}
use Rattle.shard_cmd.proofs.Answered.{no_loads}
use Rattle.shard_cmd.proofs.Runs.{asked_ops, by_command, by_input, command_read, each_input, ends_alone, few_asked, got_key, has_alone, has_ending, run-counts, run-loads, run-output, run-status, same_ops, store_same, told}
use Rattle.shard_cmd.proofs.running.run.Goals as goal

pub returns-in-Ok-Apply-clause-output : goal.returns-in-Ok-Apply-clause-output
returns-in-Ok-Apply-clause-output g c = run-output g.N.Texts.store g.N.Nodes.count_of (run_limits c.args.limits.now) c.args.words.now (g.S.Source.left c.args.source.now) (Some (apply)) (λ input. live_behind (script_outcome (apply_script (run_limits c.args.limits.now)) input))
    (command_read c.args.words.now c.read_command.result Apply (c.in-Ok-Apply.is ∙ ap Ok c.in-Ok-Apply.field-0-is) c.read_command.ensures.ok) (λ input. refl)
    c.args.nodes c.run_apply.result.nodes (g.K.Sink.written c.args.sink.now) (g.K.Sink.written c.run_apply.new.sink) c.run_apply.result.status c.run_apply.ensures.ends

pub returns-in-Ok-Apply-clause-status : goal.returns-in-Ok-Apply-clause-status
returns-in-Ok-Apply-clause-status g c = run-status g.N.Texts.store g.N.Nodes.count_of (run_limits c.args.limits.now) c.args.words.now (g.S.Source.left c.args.source.now) (Some (apply)) (λ input. live_behind (script_outcome (apply_script (run_limits c.args.limits.now)) input))
    (command_read c.args.words.now c.read_command.result Apply (c.in-Ok-Apply.is ∙ ap Ok c.in-Ok-Apply.field-0-is) c.read_command.ensures.ok) (λ input. refl)
    c.args.nodes c.run_apply.result.nodes (g.K.Sink.written c.args.sink.now) (g.K.Sink.written c.run_apply.new.sink) c.run_apply.result.status c.run_apply.ensures.ends

pub returns-in-Ok-Apply-clause-counts : goal.returns-in-Ok-Apply-clause-counts
returns-in-Ok-Apply-clause-counts g c = λ other another. run-counts g.N.Texts.store g.N.Nodes.count_of (run_limits c.args.limits.now) c.args.words.now (g.S.Source.left c.args.source.now) (Some (apply)) (λ input. live_behind (script_outcome (apply_script (run_limits c.args.limits.now)) input))
    (command_read c.args.words.now c.read_command.result Apply (c.in-Ok-Apply.is ∙ ap Ok c.in-Ok-Apply.field-0-is) c.read_command.ensures.ok) (λ input. refl)
    c.args.nodes c.run_apply.result.nodes (g.K.Sink.written c.args.sink.now) (g.K.Sink.written c.run_apply.new.sink) c.run_apply.result.status c.run_apply.ensures.ends

pub returns-in-Ok-Apply-clause-loads : goal.returns-in-Ok-Apply-clause-loads
returns-in-Ok-Apply-clause-loads g c = run-loads g.N.Texts.store g.N.Nodes.count_of (run_limits c.args.limits.now) c.args.words.now (g.S.Source.left c.args.source.now) (Some (apply)) (λ input. live_behind (script_outcome (apply_script (run_limits c.args.limits.now)) input))
    (command_read c.args.words.now c.read_command.result Apply (c.in-Ok-Apply.is ∙ ap Ok c.in-Ok-Apply.field-0-is) c.read_command.ensures.ok) (λ input. refl)
    c.args.nodes c.run_apply.result.nodes (g.K.Sink.written c.args.sink.now) (g.K.Sink.written c.run_apply.new.sink) c.run_apply.result.status c.run_apply.ensures.ends

pub returns-in-Ok-Apply-clause-root_untouched : goal.returns-in-Ok-Apply-clause-root_untouched
returns-in-Ok-Apply-clause-root_untouched g c = λ asked. let other = sym asked ∙ command_read c.args.words.now c.read_command.result Apply (c.in-Ok-Apply.is ∙ ap Ok c.in-Ok-Apply.field-0-is) c.read_command.ensures.ok in absurd (cc other)

pub returns-in-Ok-Apply-clause-replay_untouched : goal.returns-in-Ok-Apply-clause-replay_untouched
returns-in-Ok-Apply-clause-replay_untouched g c = λ asked. let other = sym asked ∙ command_read c.args.words.now c.read_command.result Apply (c.in-Ok-Apply.is ∙ ap Ok c.in-Ok-Apply.field-0-is) c.read_command.ensures.ok in absurd (cc other)

pub returns-in-Ok-Apply-clause-root_no_store_fault : goal.returns-in-Ok-Apply-clause-root_no_store_fault
returns-in-Ok-Apply-clause-root_no_store_fault g c = λ asked. let other = sym asked ∙ command_read c.args.words.now c.read_command.result Apply (c.in-Ok-Apply.is ∙ ap Ok c.in-Ok-Apply.field-0-is) c.read_command.ensures.ok in absurd (cc other)

pub returns-in-Ok-Apply-clause-replay_no_store_fault : goal.returns-in-Ok-Apply-clause-replay_no_store_fault
returns-in-Ok-Apply-clause-replay_no_store_fault g c = λ asked. let other = sym asked ∙ command_read c.args.words.now c.read_command.result Apply (c.in-Ok-Apply.is ∙ ap Ok c.in-Ok-Apply.field-0-is) c.read_command.ensures.ok in absurd (cc other)

pub returns-in-Ok-Apply-clause-root_source_faults : goal.returns-in-Ok-Apply-clause-root_source_faults
returns-in-Ok-Apply-clause-root_source_faults g c = λ asked. let other = sym asked ∙ command_read c.args.words.now c.read_command.result Apply (c.in-Ok-Apply.is ∙ ap Ok c.in-Ok-Apply.field-0-is) c.read_command.ensures.ok in absurd (cc other)

pub returns-in-Ok-Apply-clause-replay_source_faults : goal.returns-in-Ok-Apply-clause-replay_source_faults
returns-in-Ok-Apply-clause-replay_source_faults g c = λ asked. let other = sym asked ∙ command_read c.args.words.now c.read_command.result Apply (c.in-Ok-Apply.is ∙ ap Ok c.in-Ok-Apply.field-0-is) c.read_command.ensures.ok in absurd (cc other)

pub returns-in-Ok-Apply-clause-full_changes : goal.returns-in-Ok-Apply-clause-full_changes
returns-in-Ok-Apply-clause-full_changes g c = λ id ops asked many. let other = sym asked ∙ command_read c.args.words.now c.read_command.result Apply (c.in-Ok-Apply.is ∙ ap Ok c.in-Ok-Apply.field-0-is) c.read_command.ensures.ok in absurd (cc other)

pub returns-in-Ok-Get-clause-output : goal.returns-in-Ok-Get-clause-output
returns-in-Ok-Get-clause-output g c = run-output g.N.Texts.store g.N.Nodes.count_of (run_limits c.args.limits.now) c.args.words.now (g.S.Source.left c.args.source.now) (Some (get c.in-Ok-Get.id.0 c.in-Ok-Get.key)) (λ input. live_behind (script_outcome (get_script (run_limits c.args.limits.now) c.in-Ok-Get.id.0 c.in-Ok-Get.key) input))
    (command_read c.args.words.now c.read_command.result (Get c.in-Ok-Get.id c.in-Ok-Get.key) (c.in-Ok-Get.is ∙ ap Ok c.in-Ok-Get.field-0-is) c.read_command.ensures.ok) (λ input. refl)
    c.args.nodes c.run_request.result.nodes (g.K.Sink.written c.args.sink.now) (g.K.Sink.written c.run_request.new.sink) c.run_request.result.status c.run_request.ensures.ends

pub returns-in-Ok-Get-clause-status : goal.returns-in-Ok-Get-clause-status
returns-in-Ok-Get-clause-status g c = run-status g.N.Texts.store g.N.Nodes.count_of (run_limits c.args.limits.now) c.args.words.now (g.S.Source.left c.args.source.now) (Some (get c.in-Ok-Get.id.0 c.in-Ok-Get.key)) (λ input. live_behind (script_outcome (get_script (run_limits c.args.limits.now) c.in-Ok-Get.id.0 c.in-Ok-Get.key) input))
    (command_read c.args.words.now c.read_command.result (Get c.in-Ok-Get.id c.in-Ok-Get.key) (c.in-Ok-Get.is ∙ ap Ok c.in-Ok-Get.field-0-is) c.read_command.ensures.ok) (λ input. refl)
    c.args.nodes c.run_request.result.nodes (g.K.Sink.written c.args.sink.now) (g.K.Sink.written c.run_request.new.sink) c.run_request.result.status c.run_request.ensures.ends

pub returns-in-Ok-Get-clause-counts : goal.returns-in-Ok-Get-clause-counts
returns-in-Ok-Get-clause-counts g c = λ other another. run-counts g.N.Texts.store g.N.Nodes.count_of (run_limits c.args.limits.now) c.args.words.now (g.S.Source.left c.args.source.now) (Some (get c.in-Ok-Get.id.0 c.in-Ok-Get.key)) (λ input. live_behind (script_outcome (get_script (run_limits c.args.limits.now) c.in-Ok-Get.id.0 c.in-Ok-Get.key) input))
    (command_read c.args.words.now c.read_command.result (Get c.in-Ok-Get.id c.in-Ok-Get.key) (c.in-Ok-Get.is ∙ ap Ok c.in-Ok-Get.field-0-is) c.read_command.ensures.ok) (λ input. refl)
    c.args.nodes c.run_request.result.nodes (g.K.Sink.written c.args.sink.now) (g.K.Sink.written c.run_request.new.sink) c.run_request.result.status c.run_request.ensures.ends

pub returns-in-Ok-Get-clause-loads : goal.returns-in-Ok-Get-clause-loads
returns-in-Ok-Get-clause-loads g c = run-loads g.N.Texts.store g.N.Nodes.count_of (run_limits c.args.limits.now) c.args.words.now (g.S.Source.left c.args.source.now) (Some (get c.in-Ok-Get.id.0 c.in-Ok-Get.key)) (λ input. live_behind (script_outcome (get_script (run_limits c.args.limits.now) c.in-Ok-Get.id.0 c.in-Ok-Get.key) input))
    (command_read c.args.words.now c.read_command.result (Get c.in-Ok-Get.id c.in-Ok-Get.key) (c.in-Ok-Get.is ∙ ap Ok c.in-Ok-Get.field-0-is) c.read_command.ensures.ok) (λ input. refl)
    c.args.nodes c.run_request.result.nodes (g.K.Sink.written c.args.sink.now) (g.K.Sink.written c.run_request.new.sink) c.run_request.result.status c.run_request.ensures.ends

pub returns-in-Ok-Get-clause-root_untouched : goal.returns-in-Ok-Get-clause-root_untouched
returns-in-Ok-Get-clause-root_untouched g c = λ asked. let other = sym asked ∙ command_read c.args.words.now c.read_command.result (Get c.in-Ok-Get.id c.in-Ok-Get.key) (c.in-Ok-Get.is ∙ ap Ok c.in-Ok-Get.field-0-is) c.read_command.ensures.ok in absurd (cc other)

pub returns-in-Ok-Get-clause-replay_untouched : goal.returns-in-Ok-Get-clause-replay_untouched
returns-in-Ok-Get-clause-replay_untouched g c = λ asked. let other = sym asked ∙ command_read c.args.words.now c.read_command.result (Get c.in-Ok-Get.id c.in-Ok-Get.key) (c.in-Ok-Get.is ∙ ap Ok c.in-Ok-Get.field-0-is) c.read_command.ensures.ok in absurd (cc other)

pub returns-in-Ok-Get-clause-root_no_store_fault : goal.returns-in-Ok-Get-clause-root_no_store_fault
returns-in-Ok-Get-clause-root_no_store_fault g c = λ asked. let other = sym asked ∙ command_read c.args.words.now c.read_command.result (Get c.in-Ok-Get.id c.in-Ok-Get.key) (c.in-Ok-Get.is ∙ ap Ok c.in-Ok-Get.field-0-is) c.read_command.ensures.ok in absurd (cc other)

pub returns-in-Ok-Get-clause-replay_no_store_fault : goal.returns-in-Ok-Get-clause-replay_no_store_fault
returns-in-Ok-Get-clause-replay_no_store_fault g c = λ asked. let other = sym asked ∙ command_read c.args.words.now c.read_command.result (Get c.in-Ok-Get.id c.in-Ok-Get.key) (c.in-Ok-Get.is ∙ ap Ok c.in-Ok-Get.field-0-is) c.read_command.ensures.ok in absurd (cc other)

pub returns-in-Ok-Get-clause-root_source_faults : goal.returns-in-Ok-Get-clause-root_source_faults
returns-in-Ok-Get-clause-root_source_faults g c = λ asked. let other = sym asked ∙ command_read c.args.words.now c.read_command.result (Get c.in-Ok-Get.id c.in-Ok-Get.key) (c.in-Ok-Get.is ∙ ap Ok c.in-Ok-Get.field-0-is) c.read_command.ensures.ok in absurd (cc other)

pub returns-in-Ok-Get-clause-replay_source_faults : goal.returns-in-Ok-Get-clause-replay_source_faults
returns-in-Ok-Get-clause-replay_source_faults g c = λ asked. let other = sym asked ∙ command_read c.args.words.now c.read_command.result (Get c.in-Ok-Get.id c.in-Ok-Get.key) (c.in-Ok-Get.is ∙ ap Ok c.in-Ok-Get.field-0-is) c.read_command.ensures.ok in absurd (cc other)

pub returns-in-Ok-Get-clause-full_changes : goal.returns-in-Ok-Get-clause-full_changes
returns-in-Ok-Get-clause-full_changes g c = λ id ops asked many. let other = sym asked ∙ command_read c.args.words.now c.read_command.result (Get c.in-Ok-Get.id c.in-Ok-Get.key) (c.in-Ok-Get.is ∙ ap Ok c.in-Ok-Get.field-0-is) c.read_command.ensures.ok in absurd (cc other)

pub returns-in-Ok-Prove-clause-output : goal.returns-in-Ok-Prove-clause-output
returns-in-Ok-Prove-clause-output g c = run-output g.N.Texts.store g.N.Nodes.count_of (run_limits c.args.limits.now) c.args.words.now (g.S.Source.left c.args.source.now) (Some (prove c.in-Ok-Prove.id.0 (map op c.in-Ok-Prove.ops))) (prove_outcome (run_limits c.args.limits.now) c.in-Ok-Prove.id.0 (map op c.in-Ok-Prove.ops))
    (command_read c.args.words.now c.read_command.result (Prove c.in-Ok-Prove.id c.in-Ok-Prove.ops) (c.in-Ok-Prove.is ∙ ap Ok c.in-Ok-Prove.field-0-is) c.read_command.ensures.ok) (λ input. refl)
    c.args.nodes c.run_prove.result.nodes (g.K.Sink.written c.args.sink.now) (g.K.Sink.written c.run_prove.new.sink) c.run_prove.result.status c.run_prove.ensures.ends

pub returns-in-Ok-Prove-clause-status : goal.returns-in-Ok-Prove-clause-status
returns-in-Ok-Prove-clause-status g c = run-status g.N.Texts.store g.N.Nodes.count_of (run_limits c.args.limits.now) c.args.words.now (g.S.Source.left c.args.source.now) (Some (prove c.in-Ok-Prove.id.0 (map op c.in-Ok-Prove.ops))) (prove_outcome (run_limits c.args.limits.now) c.in-Ok-Prove.id.0 (map op c.in-Ok-Prove.ops))
    (command_read c.args.words.now c.read_command.result (Prove c.in-Ok-Prove.id c.in-Ok-Prove.ops) (c.in-Ok-Prove.is ∙ ap Ok c.in-Ok-Prove.field-0-is) c.read_command.ensures.ok) (λ input. refl)
    c.args.nodes c.run_prove.result.nodes (g.K.Sink.written c.args.sink.now) (g.K.Sink.written c.run_prove.new.sink) c.run_prove.result.status c.run_prove.ensures.ends

pub returns-in-Ok-Prove-clause-counts : goal.returns-in-Ok-Prove-clause-counts
returns-in-Ok-Prove-clause-counts g c = λ other another. run-counts g.N.Texts.store g.N.Nodes.count_of (run_limits c.args.limits.now) c.args.words.now (g.S.Source.left c.args.source.now) (Some (prove c.in-Ok-Prove.id.0 (map op c.in-Ok-Prove.ops))) (prove_outcome (run_limits c.args.limits.now) c.in-Ok-Prove.id.0 (map op c.in-Ok-Prove.ops))
    (command_read c.args.words.now c.read_command.result (Prove c.in-Ok-Prove.id c.in-Ok-Prove.ops) (c.in-Ok-Prove.is ∙ ap Ok c.in-Ok-Prove.field-0-is) c.read_command.ensures.ok) (λ input. refl)
    c.args.nodes c.run_prove.result.nodes (g.K.Sink.written c.args.sink.now) (g.K.Sink.written c.run_prove.new.sink) c.run_prove.result.status c.run_prove.ensures.ends

pub returns-in-Ok-Prove-clause-loads : goal.returns-in-Ok-Prove-clause-loads
returns-in-Ok-Prove-clause-loads g c = run-loads g.N.Texts.store g.N.Nodes.count_of (run_limits c.args.limits.now) c.args.words.now (g.S.Source.left c.args.source.now) (Some (prove c.in-Ok-Prove.id.0 (map op c.in-Ok-Prove.ops))) (prove_outcome (run_limits c.args.limits.now) c.in-Ok-Prove.id.0 (map op c.in-Ok-Prove.ops))
    (command_read c.args.words.now c.read_command.result (Prove c.in-Ok-Prove.id c.in-Ok-Prove.ops) (c.in-Ok-Prove.is ∙ ap Ok c.in-Ok-Prove.field-0-is) c.read_command.ensures.ok) (λ input. refl)
    c.args.nodes c.run_prove.result.nodes (g.K.Sink.written c.args.sink.now) (g.K.Sink.written c.run_prove.new.sink) c.run_prove.result.status c.run_prove.ensures.ends

pub returns-in-Ok-Prove-clause-root_untouched : goal.returns-in-Ok-Prove-clause-root_untouched
returns-in-Ok-Prove-clause-root_untouched g c = λ asked. let other = sym asked ∙ command_read c.args.words.now c.read_command.result (Prove c.in-Ok-Prove.id c.in-Ok-Prove.ops) (c.in-Ok-Prove.is ∙ ap Ok c.in-Ok-Prove.field-0-is) c.read_command.ensures.ok in absurd (cc other)

pub returns-in-Ok-Prove-clause-replay_untouched : goal.returns-in-Ok-Prove-clause-replay_untouched
returns-in-Ok-Prove-clause-replay_untouched g c = λ asked. let other = sym asked ∙ command_read c.args.words.now c.read_command.result (Prove c.in-Ok-Prove.id c.in-Ok-Prove.ops) (c.in-Ok-Prove.is ∙ ap Ok c.in-Ok-Prove.field-0-is) c.read_command.ensures.ok in absurd (cc other)

pub returns-in-Ok-Prove-clause-root_no_store_fault : goal.returns-in-Ok-Prove-clause-root_no_store_fault
returns-in-Ok-Prove-clause-root_no_store_fault g c = λ asked. let other = sym asked ∙ command_read c.args.words.now c.read_command.result (Prove c.in-Ok-Prove.id c.in-Ok-Prove.ops) (c.in-Ok-Prove.is ∙ ap Ok c.in-Ok-Prove.field-0-is) c.read_command.ensures.ok in absurd (cc other)

pub returns-in-Ok-Prove-clause-replay_no_store_fault : goal.returns-in-Ok-Prove-clause-replay_no_store_fault
returns-in-Ok-Prove-clause-replay_no_store_fault g c = λ asked. let other = sym asked ∙ command_read c.args.words.now c.read_command.result (Prove c.in-Ok-Prove.id c.in-Ok-Prove.ops) (c.in-Ok-Prove.is ∙ ap Ok c.in-Ok-Prove.field-0-is) c.read_command.ensures.ok in absurd (cc other)

pub returns-in-Ok-Prove-clause-root_source_faults : goal.returns-in-Ok-Prove-clause-root_source_faults
returns-in-Ok-Prove-clause-root_source_faults g c = λ asked. let other = sym asked ∙ command_read c.args.words.now c.read_command.result (Prove c.in-Ok-Prove.id c.in-Ok-Prove.ops) (c.in-Ok-Prove.is ∙ ap Ok c.in-Ok-Prove.field-0-is) c.read_command.ensures.ok in absurd (cc other)

pub returns-in-Ok-Prove-clause-replay_source_faults : goal.returns-in-Ok-Prove-clause-replay_source_faults
returns-in-Ok-Prove-clause-replay_source_faults g c = λ asked. let other = sym asked ∙ command_read c.args.words.now c.read_command.result (Prove c.in-Ok-Prove.id c.in-Ok-Prove.ops) (c.in-Ok-Prove.is ∙ ap Ok c.in-Ok-Prove.field-0-is) c.read_command.ensures.ok in absurd (cc other)

pub returns-in-Ok-Prove-clause-full_changes : goal.returns-in-Ok-Prove-clause-full_changes
returns-in-Ok-Prove-clause-full_changes g c = λ id ops asked many. c.run_prove.ensures.unread (same_ops (run_limits c.args.limits.now) id c.in-Ok-Prove.id.0 ops (map op c.in-Ok-Prove.ops) (sym asked ∙ command_read c.args.words.now c.read_command.result (Prove c.in-Ok-Prove.id c.in-Ok-Prove.ops) (c.in-Ok-Prove.is ∙ ap Ok c.in-Ok-Prove.field-0-is) c.read_command.ensures.ok) many)

pub returns-in-Ok-Root-clause-output : goal.returns-in-Ok-Root-clause-output
returns-in-Ok-Root-clause-output g c =
    by_command (λ outcome. IfSome (g.K.Sink.written c.args.sink.now) (λ before. EndsAsOne outcome.IsOutput (ending_of c.run_root.result) before (g.K.Sink.written c.run_root.new.sink)))
    (run_limits c.args.limits.now) c.args.words.now (g.S.Source.left c.args.source.now) (Some root) (command_read c.args.words.now c.read_command.result Root (c.in-Ok-Root.is ∙ ap Ok c.in-Ok-Root.field-0-is) c.read_command.ensures.ok)
    (by_input (g.S.Source.left c.args.source.now) (λ input. IfSome (g.K.Sink.written c.args.sink.now) (λ before. EndsAs (root_output (run_limits c.args.limits.now) input) (ending_of c.run_root.result) before (g.K.Sink.written c.run_root.new.sink))) (λ input. IfSome (g.K.Sink.written c.args.sink.now) (λ before. EndsAsOne (λ o. o ≡ (root_output (run_limits c.args.limits.now) input)) (ending_of c.run_root.result) before (g.K.Sink.written c.run_root.new.sink))) (λ input h. ends_alone (root_output (run_limits c.args.limits.now) input) (ending_of c.run_root.result) (g.K.Sink.written c.args.sink.now) (g.K.Sink.written c.run_root.new.sink) h) c.run_root.ensures.output)

pub returns-in-Ok-Root-clause-status : goal.returns-in-Ok-Root-clause-status
returns-in-Ok-Root-clause-status g c =
    by_command (λ outcome. HasOneEnding outcome.IsOutput (ending_of c.run_root.result)) (run_limits c.args.limits.now) c.args.words.now (g.S.Source.left c.args.source.now) (Some root) (command_read c.args.words.now c.read_command.result Root (c.in-Ok-Root.is ∙ ap Ok c.in-Ok-Root.field-0-is) c.read_command.ensures.ok)
    (by_input (g.S.Source.left c.args.source.now) (λ input. HasEnding (root_output (run_limits c.args.limits.now) input) (ending_of c.run_root.result)) (λ input. HasOneEnding (λ o. o ≡ (root_output (run_limits c.args.limits.now) input)) (ending_of c.run_root.result)) (λ input h. has_alone (root_output (run_limits c.args.limits.now) input) (ending_of c.run_root.result) h) c.run_root.ensures.status)

pub returns-in-Ok-Root-clause-counts : goal.returns-in-Ok-Root-clause-counts
returns-in-Ok-Root-clause-counts g c = λ other another. absurd (other (command_read c.args.words.now c.read_command.result Root (c.in-Ok-Root.is ∙ ap Ok c.in-Ok-Root.field-0-is) c.read_command.ensures.ok))

pub returns-in-Ok-Root-clause-loads : goal.returns-in-Ok-Root-clause-loads
returns-in-Ok-Root-clause-loads g c =
    by_command (λ outcome. CountsLoads (run_ended c.run_root.result) (g.N.Texts.store.loads c.args.nodes) (g.N.Texts.store.loads c.args.nodes) outcome.loaded) (run_limits c.args.limits.now) c.args.words.now (g.S.Source.left c.args.source.now) (Some root) (command_read c.args.words.now c.read_command.result Root (c.in-Ok-Root.is ∙ ap Ok c.in-Ok-Root.field-0-is) c.read_command.ensures.ok)
    (each_input (g.S.Source.left c.args.source.now) (λ input. CountsLoads (run_ended c.run_root.result) (g.N.Texts.store.loads c.args.nodes) (g.N.Texts.store.loads c.args.nodes) 0) (λ input. no_loads (run_ended c.run_root.result) (g.N.Texts.store.loads c.args.nodes) (g.N.Texts.store.loads c.args.nodes) refl))

pub returns-in-Ok-Root-clause-store_faults : goal.returns-in-Ok-Root-clause-store_faults
returns-in-Ok-Root-clause-store_faults g c = store_same c.run_root.result (g.N.Texts.store.faults c.args.nodes) c.run_root.ensures.no_store_fault

pub returns-in-Err-Bad-clause-output : goal.returns-in-Err-Bad-clause-output
returns-in-Err-Bad-clause-output g c =
    by_command (λ outcome. IfSome (g.K.Sink.written c.args.sink.now) (λ before. EndsAsOne outcome.IsOutput (ending_of c.finish.result) before (g.K.Sink.written c.finish.new.sink)))
    (run_limits c.args.limits.now) c.args.words.now (g.S.Source.left c.args.source.now) None (c.in-Err-Bad.ensures.bad (ap Err c.in-Err-Bad.field-0-is)) (told (g.S.Source.left c.args.source.now) (ends_alone bad_command (ending_of c.finish.result) (g.K.Sink.written c.args.sink.now) (g.K.Sink.written c.finish.new.sink) (c.finish.ensures.output bad_command refl refl)))

pub returns-in-Err-Bad-clause-status : goal.returns-in-Err-Bad-clause-status
returns-in-Err-Bad-clause-status g c =
    by_command (λ outcome. HasOneEnding outcome.IsOutput (ending_of c.finish.result)) (run_limits c.args.limits.now) c.args.words.now (g.S.Source.left c.args.source.now) None (c.in-Err-Bad.ensures.bad (ap Err c.in-Err-Bad.field-0-is)) (told (g.S.Source.left c.args.source.now) (has_alone bad_command (ending_of c.finish.result) (has_ending bad_command Usage c.finish.result _ _ refl c.finish.ensures.status)))

pub returns-in-Err-Bad-clause-loads : goal.returns-in-Err-Bad-clause-loads
returns-in-Err-Bad-clause-loads g c =
    by_command (λ outcome. CountsLoads (run_ended c.finish.result) (g.N.Texts.store.loads c.args.nodes) (g.N.Texts.store.loads c.args.nodes) outcome.loaded) (run_limits c.args.limits.now) c.args.words.now (g.S.Source.left c.args.source.now) None (c.in-Err-Bad.ensures.bad (ap Err c.in-Err-Bad.field-0-is))
    (each_input (g.S.Source.left c.args.source.now) (λ input. CountsLoads (run_ended c.finish.result) (g.N.Texts.store.loads c.args.nodes) (g.N.Texts.store.loads c.args.nodes) 0) (λ input. no_loads (run_ended c.finish.result) (g.N.Texts.store.loads c.args.nodes) (g.N.Texts.store.loads c.args.nodes) refl))

pub returns-in-Err-Bad-clause-root_untouched : goal.returns-in-Err-Bad-clause-root_untouched
returns-in-Err-Bad-clause-root_untouched g c = λ asked. let other = sym asked ∙ c.in-Err-Bad.ensures.bad (ap Err c.in-Err-Bad.field-0-is) in absurd (cc other)

pub returns-in-Err-Bad-clause-replay_untouched : goal.returns-in-Err-Bad-clause-replay_untouched
returns-in-Err-Bad-clause-replay_untouched g c = λ asked. let other = sym asked ∙ c.in-Err-Bad.ensures.bad (ap Err c.in-Err-Bad.field-0-is) in absurd (cc other)

pub returns-in-Err-Bad-clause-root_no_store_fault : goal.returns-in-Err-Bad-clause-root_no_store_fault
returns-in-Err-Bad-clause-root_no_store_fault g c = λ asked. let other = sym asked ∙ c.in-Err-Bad.ensures.bad (ap Err c.in-Err-Bad.field-0-is) in absurd (cc other)

pub returns-in-Err-Bad-clause-replay_no_store_fault : goal.returns-in-Err-Bad-clause-replay_no_store_fault
returns-in-Err-Bad-clause-replay_no_store_fault g c = λ asked. let other = sym asked ∙ c.in-Err-Bad.ensures.bad (ap Err c.in-Err-Bad.field-0-is) in absurd (cc other)

pub returns-in-Err-Bad-clause-root_source_faults : goal.returns-in-Err-Bad-clause-root_source_faults
returns-in-Err-Bad-clause-root_source_faults g c = λ asked. let other = sym asked ∙ c.in-Err-Bad.ensures.bad (ap Err c.in-Err-Bad.field-0-is) in absurd (cc other)

pub returns-in-Err-Bad-clause-replay_source_faults : goal.returns-in-Err-Bad-clause-replay_source_faults
returns-in-Err-Bad-clause-replay_source_faults g c = λ asked. let other = sym asked ∙ c.in-Err-Bad.ensures.bad (ap Err c.in-Err-Bad.field-0-is) in absurd (cc other)

pub run_request-requires-clause-request : goal.run_request-requires-clause-request
run_request-requires-clause-request g c = (got_key c.read_command.result c.in-Ok-Get.id c.in-Ok-Get.key (c.in-Ok-Get.is ∙ ap Ok c.in-Ok-Get.field-0-is) c.read_command.ensures.within).short

pub run_prove-requires-clause-each : goal.run_prove-requires-clause-each
run_prove-requires-clause-each g c = (asked_ops c.read_command.result c.in-Ok-Prove.id c.in-Ok-Prove.ops (c.in-Ok-Prove.is ∙ ap Ok c.in-Ok-Prove.field-0-is) c.read_command.ensures.within).0

pub run_prove-requires-clause-few : goal.run_prove-requires-clause-few
run_prove-requires-clause-few g c = few_asked c.in-Ok-Prove.ops (asked_ops c.read_command.result c.in-Ok-Prove.id c.in-Ok-Prove.ops (c.in-Ok-Prove.is ∙ ap Ok c.in-Ok-Prove.field-0-is) c.read_command.ensures.within).2

pub returns-in-Ok-Replay-clause-output : goal.returns-in-Ok-Replay-clause-output
returns-in-Ok-Replay-clause-output g c =
    by_command (λ outcome. IfSome (g.K.Sink.written c.args.sink.now) (λ before. EndsAsOne outcome.IsOutput (ending_of c.run_replay.result) before (g.K.Sink.written c.run_replay.new.sink))) (run_limits c.args.limits.now) c.args.words.now (g.S.Source.left c.args.source.now) (Some replay) (command_read c.args.words.now c.read_command.result Replay (c.in-Ok-Replay.is ∙ ap Ok c.in-Ok-Replay.field-0-is) c.read_command.ensures.ok) c.run_replay.ensures.output

pub returns-in-Ok-Replay-clause-status : goal.returns-in-Ok-Replay-clause-status
returns-in-Ok-Replay-clause-status g c =
    by_command (λ outcome. HasOneEnding outcome.IsOutput (ending_of c.run_replay.result)) (run_limits c.args.limits.now) c.args.words.now (g.S.Source.left c.args.source.now) (Some replay) (command_read c.args.words.now c.read_command.result Replay (c.in-Ok-Replay.is ∙ ap Ok c.in-Ok-Replay.field-0-is) c.read_command.ensures.ok) c.run_replay.ensures.status

pub returns-in-Ok-Replay-clause-counts : goal.returns-in-Ok-Replay-clause-counts
returns-in-Ok-Replay-clause-counts g c = λ other another. absurd (another (command_read c.args.words.now c.read_command.result Replay (c.in-Ok-Replay.is ∙ ap Ok c.in-Ok-Replay.field-0-is) c.read_command.ensures.ok))

pub returns-in-Ok-Replay-clause-loads : goal.returns-in-Ok-Replay-clause-loads
returns-in-Ok-Replay-clause-loads g c =
    by_command (λ outcome. CountsLoads (run_ended c.run_replay.result) (g.N.Texts.store.loads c.args.nodes) (g.N.Texts.store.loads c.args.nodes) outcome.loaded) (run_limits c.args.limits.now) c.args.words.now (g.S.Source.left c.args.source.now) (Some replay) (command_read c.args.words.now c.read_command.result Replay (c.in-Ok-Replay.is ∙ ap Ok c.in-Ok-Replay.field-0-is) c.read_command.ensures.ok)
    (each_input (g.S.Source.left c.args.source.now) (λ input. CountsLoads (run_ended c.run_replay.result) (g.N.Texts.store.loads c.args.nodes) (g.N.Texts.store.loads c.args.nodes) 0) (λ input. no_loads (run_ended c.run_replay.result) (g.N.Texts.store.loads c.args.nodes) (g.N.Texts.store.loads c.args.nodes) refl))

pub returns-in-Ok-Replay-clause-store_faults : goal.returns-in-Ok-Replay-clause-store_faults
returns-in-Ok-Replay-clause-store_faults g c = store_same c.run_replay.result (g.N.Texts.store.faults c.args.nodes) c.run_replay.ensures.no_store_fault

pub returns-in-Ok-Root-clause-full_changes : goal.returns-in-Ok-Root-clause-full_changes
returns-in-Ok-Root-clause-full_changes g c = λ id ops asked many. let other = sym asked ∙ command_read c.args.words.now c.read_command.result Root (c.in-Ok-Root.is ∙ ap Ok c.in-Ok-Root.field-0-is) c.read_command.ensures.ok in absurd (cc other)

pub returns-in-Ok-Replay-clause-full_changes : goal.returns-in-Ok-Replay-clause-full_changes
returns-in-Ok-Replay-clause-full_changes g c = λ id ops asked many. let other = sym asked ∙ command_read c.args.words.now c.read_command.result Replay (c.in-Ok-Replay.is ∙ ap Ok c.in-Ok-Replay.field-0-is) c.read_command.ensures.ok in absurd (cc other)

pub returns-in-Err-Bad-clause-full_changes : goal.returns-in-Err-Bad-clause-full_changes
returns-in-Err-Bad-clause-full_changes g c = λ id ops asked many. let other = sym asked ∙ c.in-Err-Bad.ensures.bad (ap Err c.in-Err-Bad.field-0-is) in absurd (cc other)
