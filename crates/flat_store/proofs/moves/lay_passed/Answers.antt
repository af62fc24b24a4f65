use Rattle.std.proofs.Common.{arith}
use Rattle.flat_store.proofs.Passing.{passing-end, passing-room, passing-start, passing-step}
use Rattle.flat_store.proofs.moves.lay_passed.Goals as goal

pub loop-place-init : goal.loop-place-init
loop-place-init c = (passing-start _ _ _ _ c.requires.pairs c.requires.room, omega arith, omega arith)

pub lay_block-requires-clause-room : goal.lay_block-requires-clause-room
lay_block-requires-clause-room c = passing-room _ _ _ _ _ _ _ c.at.result.0 c.loop-place.invariant.0 c.requires.apart c.at.ensures

pub loop-place-preserved : goal.loop-place-preserved
loop-place-preserved c = (
  passing-step _ _ _ _ _ _ _ _ _ _ c.at.result.0 c.loop-place.invariant.0 c.requires.apart c.at.ensures c.lay_block.ensures.head c.lay_block.ensures.deltas c.lay_block.ensures.pairs c.lay_block.ensures.places,
  omega (arith, c.loop-place.invariant.1, c.lay_block.ensures.few),
  omega (arith, c.loop-place.invariant.2, c.lay_block.ensures.room),
)

pub returns-clause-head : goal.returns-clause-head
returns-clause-head c = (passing-end _ _ _ _ _ _ _ c.loop-place.invariant.0 (omega (arith, c.loop-place-test.false, c.len-place-end.ensures))).0

pub returns-clause-deltas : goal.returns-clause-deltas
returns-clause-deltas c = (passing-end _ _ _ _ _ _ _ c.loop-place.invariant.0 (omega (arith, c.loop-place-test.false, c.len-place-end.ensures))).1
