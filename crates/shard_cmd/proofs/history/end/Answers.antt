use Rattle.std.proofs.Common.{◌∙◌, Ok, Err, ap, subst, sym}
use Rattle.base_core.specs.Faults.{risen}
use Rattle.count_model.specs.BlockEnds.{block_end}
use Rattle.count_model.specs.Loads.{carry_out, loads}
use Rattle.text_store.specs.Leaves.{CountsLoads}
use Rattle.shard_core.specs.Answers.{apply_ended}
use Rattle.shard_core.specs.ShardAnswers.{AnswersApply}
use Rattle.shard_core.specs.declared.block.Applied.{Applied}
use Rattle.output_model.specs.Ends.{RunLimits}
use Rattle.shard_cmd.specs.Histories.{header_of}
use Rattle.shard_cmd.proofs.Histories.{block_applied, block_halts, block_refused}
use Rattle.shard_cmd.proofs.history.end.Goals as goal

pub returns-in-Ok : goal.returns-in-Ok
returns-in-Ok g c = λ limits forks is.
    rw c.gathered.ensures (block_applied g.N.Texts.store g.N.Nodes.count_of limits forks c.args.shard.now _ is c.in-Ok.ensures.limits c.args.block c.args.replies.now.bytes _ c.in-Ok.applied c.put_accepted.result
    (subst (λ (l : RunLimits). AnswersApply (block_end l.pairs l.blocks forks (header_of c.args.block.id c.args.block.prev c.args.block.height) c.args.block.changes.changes) (Ok c.in-Ok.applied)) is.limits_are (c.in-Ok.ensures.answer forks is.going is.of)) (c.in-Ok.ensures.state forks is.going is.of) c.in-Ok.ensures.stops (c.in-Ok.ensures.loads forks is.going is.of ∙ ap (λ (l : RunLimits). risen (g.N.Texts.store.loads c.args.shard.now.nodes) (loads l.blocks forks (carry_out (header_of c.args.block.id c.args.block.prev c.args.block.height) c.args.block.changes.changes))) is.limits_are) c.in-Ok.ensures.faults c.put_accepted.ensures)

pub returns-in-Ok-refusal : goal.returns-in-Ok-refusal
returns-in-Ok-refusal g c = λ limits forks is.
    rw c.gathered-in-Ok-refusal.ensures (block_refused g.N.Texts.store g.N.Nodes.count_of limits forks c.args.shard.now c.apply.new.self is c.in-Err.ensures.limits c.args.block c.args.replies.now.bytes c.put_refused.new.replies.bytes c.in-Err.error c.in-Ok-refusal.name.now c.put_refused.result (sym c.in-Ok-refusal.ensures)
    (subst (λ (l : RunLimits). AnswersApply (block_end l.pairs l.blocks forks (header_of c.args.block.id c.args.block.prev c.args.block.height) c.args.block.changes.changes) (Err c.in-Err.error)) is.limits_are (c.in-Err.ensures.answer forks is.going is.of)) (c.in-Err.ensures.state forks is.going is.of) c.in-Err.ensures.stops
    (subst (λ (l : RunLimits). CountsLoads (apply_ended {X = Applied} (Err c.in-Err.error)) (g.N.Texts.store.loads c.args.shard.now.nodes) (g.N.Texts.store.loads c.apply.new.self.nodes) (loads l.blocks forks (carry_out (header_of c.args.block.id c.args.block.prev c.args.block.height) c.args.block.changes.changes))) is.limits_are (c.in-Err.ensures.loads forks is.going is.of)) c.in-Err.ensures.faults c.put_refused.ensures)

pub returns-in-Err-refusal : goal.returns-in-Err-refusal
returns-in-Err-refusal g c = λ limits forks is.
    block_halts g.N.Texts.store g.N.Nodes.count_of limits forks c.args.shard.now c.apply.new.self is c.in-Err.ensures.limits c.args.block c.args.replies.now.bytes c.args.replies.now.bytes c.in-Err.error c.in-Err-refusal.halt
    (λ e. absurd (cc (c.in-Err.ensures.stopped.0 (ap Err e), is.going))) (sym c.in-Err-refusal.ensures) (subst (λ (l : RunLimits). AnswersApply (block_end l.pairs l.blocks forks (header_of c.args.block.id c.args.block.prev c.args.block.height) c.args.block.changes.changes) (Err c.in-Err.error)) is.limits_are (c.in-Err.ensures.answer forks is.going is.of))
    (subst (λ (l : RunLimits). CountsLoads (apply_ended {X = Applied} (Err c.in-Err.error)) (g.N.Texts.store.loads c.args.shard.now.nodes) (g.N.Texts.store.loads c.apply.new.self.nodes) (loads l.blocks forks (carry_out (header_of c.args.block.id c.args.block.prev c.args.block.height) c.args.block.changes.changes))) is.limits_are (c.in-Err.ensures.loads forks is.going is.of)) c.in-Err.ensures.faults
