use Rattle.shard_core.proofs.OfBlocks.{have_same_blocks}
use Rattle.shard_core.proofs.shard.Shard.flat.Goals as goal

pub get-requires : goal.get-requires
get-requires g c = let one = c.self.invariant.going c.if-self.false in have_same_blocks g.N.Texts.store g.N.Nodes.count_of one.0 _ one.1
