use Rattle.std.proofs.Common.{arith}
use Rattle.shard_core.proofs.Netted.{copies-more}
use Rattle.shard_core.proofs.occurrences.losses.Goals as goal

pub loop-place-preserved : goal.loop-place-preserved
loop-place-preserved c = (
  copies-more _ _ _ _ c.at-text.ensures c.loop-place.invariant.0 _ c.in_ok-push.ensures.items,
  omega (arith, c.loop-place-test.true, c.len-place-end.ensures),
)
