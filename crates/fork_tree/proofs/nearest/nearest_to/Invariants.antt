use Rattle.std.proofs.Common.{◌≤◌, length, map, drop}
use Rattle.fork_tree.specs.Nearest.{IsSearch}
use Rattle.fork_tree.proofs.nearest.nearest_to.Given as goal

abbrev pub invariant-loop-left : goal.invariant-loop-left
invariant-loop-left l = (l.left ≤ length l.ids) × IsSearch l.blocks l.start (map (λ id. id.0) (drop l.left l.ids)) l.search

abbrev pub decreases-loop-left : goal.decreases-loop-left
decreases-loop-left l = l.left
