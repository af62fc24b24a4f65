use Rattle.std.proofs.Common.{arith}
use Rattle.fork_tree.proofs.nearest.way_back.Goals as goal

pub loop-at-init : goal.loop-at-init
loop-at-init c = (c.requires.within, λ start cut. cut)

pub loop-at-preserved : goal.loop-at-preserved
loop-at-preserved c = (omega (arith, c.step_back-at.ensures.earlier, c.loop-at.invariant.0), λ start cut. c.step_back-at.ensures.cut start (c.loop-at.invariant.1 start cut))
