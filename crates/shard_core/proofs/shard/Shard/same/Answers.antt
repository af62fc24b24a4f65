use Rattle.shard_core.proofs.OfBlocks.{same-told}
use Rattle.shard_core.proofs.shard.Shard.same.Goals as goal

pub returns-clause-states : goal.returns-clause-states
returns-clause-states g c = λ blocks first second is at_a at_b.
    same-told g.N.Texts.store g.N.Nodes.count_of blocks _ is c.args.a.now.0 c.args.b.now.0 first second at_a at_b c.in_ok-first.first.0 c.in_ok-second.second.0 (c.in_ok-first.ensures.value blocks is) (c.in_ok-second.ensures.value blocks is) c.eq.result c.eq.ensures
