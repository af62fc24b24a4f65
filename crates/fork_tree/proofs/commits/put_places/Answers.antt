use Rattle.std.proofs.Common.{arith}
use Rattle.fork_tree.specs.Kept.{placed}
use Rattle.fork_tree.proofs.Tables.{none_placed, put_step}
use Rattle.fork_tree.proofs.commits.put_places.Goals as goal

pub loop-place-init : goal.loop-place-init
loop-place-init c = (λ q. none_placed c.args.blocks.now q (placed c.args.places.now.entries q), omega arith)

pub loop-place-preserved : goal.loop-place-preserved
loop-place-preserved c = (
  put_step c.args.blocks.now c.loop-place.place _ c.loop-place-test.true (c.requires.apart c.loop-place.place c.loop-place-test.true) (placed c.args.places.now.entries) (placed c.loop-place.places.entries) (placed c.put_place.new.places.entries) c.loop-place.invariant.0 c.put_place.ensures.places,
  omega (arith, c.loop-place.invariant.1, c.put_place.ensures.room),
)
