use Rattle.std.proofs.Common.{is_some, arith}
use Rattle.flat_store.proofs.Tables.{deltas-taken}
use Rattle.flat_store.proofs.Passing.{fewer, left_more}
use Rattle.flat_store.proofs.moves.forget.Goals as goal

pub loop-place-preserved : goal.loop-place-preserved
loop-place-preserved c = (
  left_more _ _ _ c.args.ids.now c.loop-place.place c.at.result.0 c.loop-place.invariant.0 c.at.ensures (deltas-taken _ _ c.at.result.0 (λ q. c.remove.ensures.updates.0 (record { 0 = q }))),
  omega (arith, c.loop-place.invariant.1, fewer _ _ (is_some c.remove.result) c.remove.ensures.len),
  omega (arith, c.loop-place.invariant.2, c.remove.ensures.spare),
)
