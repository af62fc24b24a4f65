use Rattle.std.proofs.Common.{sym, subst, ◌∙◌}
use Rattle.count_model.proofs.Different.{distinct-held}
use Rattle.shard_core.specs.Shards.{IsShardOf}
use Rattle.shard_core.proofs.shard.Shard.stats.Goals as goal

pub returns-clause-distinct : goal.returns-clause-distinct
returns-clause-distinct g c = λ blocks is.
    let own = subst (IsShardOf g.N.Texts.store g.N.Nodes.count_of blocks) (sym c.self.view_is) is in
    c.distinct.ensures.distinct ∙ distinct-held _ blocks own.tries.blocks own.tries.held
