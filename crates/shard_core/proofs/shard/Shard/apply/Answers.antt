use Rattle.std.proofs.Common.{◌≡◌, false, Err, subst}
use Rattle.base_core.proofs.PassedOn.{passed_on}
use Rattle.fork_model.specs.States.{ForkState}
use Rattle.fork_model.specs.Trees.{block_fault}
use Rattle.fork_tree.specs.Answers.{checked}
use Rattle.count_model.specs.BlockEnds.{block_end}
use Rattle.count_model.specs.Loads.{carry_out, loads}
use Rattle.text_store.specs.Leaves.{CountsLoads}
use Rattle.shard_core.specs.Answers.{apply_ended}
use Rattle.shard_core.specs.Errors.{by_fork}
use Rattle.shard_core.specs.Ledgers.{ledgers_of}
use Rattle.shard_core.specs.Shards.{IsShardOf, ShardState}
use Rattle.shard_core.specs.ShardAnswers.{AnswersApply, header_of}
use Rattle.shard_core.proofs.Answering.{errors-answer, errors-load, whether-stopped}
use Rattle.shard_core.proofs.shard.Shard.apply.Goals as goal

pub returns-in_err-check-clause-answer : goal.returns-in_err-check-clause-answer
returns-in_err-check-clause-answer g c =
    let seen : ShardState g.row.N.Denot = record { nodes = c.self.inside.tries.nodes; ledgers = ledgers_of c.self.inside.tries.ledgers.entries; forks = c.self.inside.forks; flat = c.self.inside.flat; limits = c.self.inside.limits; stopped = c.self.inside.stopped } in
    subst (λ s. (blocks : ForkState) → s.stopped ≡ false → IsShardOf g.N.Texts.store g.N.Nodes.count_of blocks s → AnswersApply (block_end s.limits.pairs s.limits.blocks blocks (header_of c.args.block) c.args.block.changes.changes) c.from_residual.result) c.self.view_is
    (λ blocks _ is. passed_on (λ r. AnswersApply (block_end seen.limits.pairs seen.limits.blocks blocks (header_of c.args.block) c.args.block.changes.changes) r) c.from_residual.result (by_fork c.in_err-check.field-0.0) c.from_residual.ensures.1 (errors-answer seen.limits.pairs seen.limits.blocks blocks (header_of c.args.block) c.args.block.changes.changes seen.forks.tree is.tree c.in_err-check.field-0.0 (subst (λ m. Err c.in_err-check.field-0.0 ≡ checked (block_fault m seen.forks.tree (header_of c.args.block))) c.self.invariant.most c.in_err-check.ensures.answer)))

pub returns-in_err-check-clause-loads : goal.returns-in_err-check-clause-loads
returns-in_err-check-clause-loads g c =
    let seen : ShardState g.row.N.Denot = record { nodes = c.self.inside.tries.nodes; ledgers = ledgers_of c.self.inside.tries.ledgers.entries; forks = c.self.inside.forks; flat = c.self.inside.flat; limits = c.self.inside.limits; stopped = c.self.inside.stopped } in
    subst (λ s. (blocks : ForkState) → s.stopped ≡ false → IsShardOf g.N.Texts.store g.N.Nodes.count_of blocks s → CountsLoads (apply_ended c.from_residual.result) (g.N.Texts.store.loads s.nodes) (g.N.Texts.store.loads s.nodes) (loads s.limits.blocks blocks (carry_out (header_of c.args.block) c.args.block.changes.changes))) c.self.view_is
    (λ blocks _ is. passed_on (λ r. CountsLoads (apply_ended r) (g.N.Texts.store.loads seen.nodes) (g.N.Texts.store.loads seen.nodes) (loads seen.limits.blocks blocks (carry_out (header_of c.args.block) c.args.block.changes.changes))) c.from_residual.result (by_fork c.in_err-check.field-0.0) c.from_residual.ensures.1 (errors-load seen.limits.pairs seen.limits.blocks blocks (header_of c.args.block) c.args.block.changes.changes seen.forks.tree is.tree c.in_err-check.field-0.0 (subst (λ m. Err c.in_err-check.field-0.0 ≡ checked (block_fault m seen.forks.tree (header_of c.args.block))) c.self.invariant.most c.in_err-check.ensures.answer) (g.N.Texts.store.loads seen.nodes)))

pub returns-clause-answer : goal.returns-clause-answer
returns-clause-answer g c =
    let seen : ShardState g.row.N.Denot = record { nodes = c.self.inside.tries.nodes; ledgers = ledgers_of c.self.inside.tries.ledgers.entries; forks = c.self.inside.forks; flat = c.self.inside.flat; limits = c.self.inside.limits; stopped = c.self.inside.stopped } in
    subst (λ s. (blocks : ForkState) → s.stopped ≡ false → IsShardOf g.N.Texts.store g.N.Nodes.count_of blocks s → AnswersApply (block_end s.limits.pairs s.limits.blocks blocks (header_of c.args.block) c.args.block.changes.changes) c.accept-answer.result) c.self.view_is
    (λ blocks _ is. c.accept-answer.ensures.answer blocks (whether-stopped g.N.Texts.store g.N.Nodes.count_of blocks seen false is))
