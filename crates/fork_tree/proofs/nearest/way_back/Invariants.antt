use Rattle.std.proofs.Common.{ℕ, ◌<◌, length}
use Rattle.fork_tree.specs.Kept.{IsCut}
use Rattle.fork_tree.proofs.nearest.way_back.Given as goal

abbrev pub invariant-loop-at : goal.invariant-loop-at
invariant-loop-at l = (l.at < length l.blocks) × ((start : ℕ) → IsCut l.blocks start l.fn.from l.place → IsCut l.blocks start l.at l.place)

abbrev pub decreases-loop-at : goal.decreases-loop-at
decreases-loop-at l = l.at
