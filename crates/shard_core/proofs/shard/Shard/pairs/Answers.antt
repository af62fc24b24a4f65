use Rattle.std.proofs.Common.{sym, arith}
use Rattle.flat_store.proofs.Follows.{state-shown}
use Rattle.shard_core.proofs.OfBlocks.{few-there, have_same_blocks}
use Rattle.shard_core.proofs.shard.Shard.pairs.Goals as goal

pub pairs_at-requires-clause-blocks : goal.pairs_at-requires-clause-blocks
pairs_at-requires-clause-blocks g c = let one = c.self.invariant.going c.if-self.false in have_same_blocks g.N.Texts.store g.N.Nodes.count_of one.0 _ one.1

pub pairs_at-requires-clause-few : goal.pairs_at-requires-clause-few
pairs_at-requires-clause-few g c = λ live.
    let one = c.self.invariant.going c.if-self.false in
    let few = few-there g.N.Texts.store g.N.Nodes.count_of one.0 _ one.1 c.args.id.now.0 _ (state-shown one.0 c.self.inside.flat c.self.inside.forks.tree c.args.id.now.0 one.1.tries.blocks (sym one.1.tree) one.1.flat live) in
    let most = c.self.invariant.limits.few_pairs in
    omega (arith, few, most)
