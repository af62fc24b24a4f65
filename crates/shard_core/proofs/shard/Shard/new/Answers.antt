use Rattle.fork_model.specs.States.{first_fork}
use Rattle.shard_core.proofs.OfBlocks.{shard-first}
use Rattle.shard_core.proofs.shard.Shard.new.Goals as goal

pub invariant_of-result : goal.invariant_of-result
invariant_of-result g c = record {
  limits = c.requires.limits;
  most = c.in-Ok.ensures.most;
  going = λ _. (first_fork, shard-first g.N.Texts.store g.N.Nodes.count_of _ c.in_ok-tries.ensures.blocks c.in-Ok.ensures.tree c.in-Ok-new.ensures.state);
}

pub returns-clause-blocks : goal.returns-clause-blocks
returns-clause-blocks g c = shard-first g.N.Texts.store g.N.Nodes.count_of _ c.in_ok-tries.ensures.blocks c.in-Ok.ensures.tree c.in-Ok-new.ensures.state
