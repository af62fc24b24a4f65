use Rattle.std.proofs.Common.{length}
use Rattle.fork_model.specs.Trees.{line}
use Rattle.flat_store.specs.Flats.{IsOnWay}
use Rattle.flat_store.proofs.flat.Flat.get.Given as goal

abbrev pub invariant-loop-prev : goal.invariant-loop-prev
invariant-loop-prev l = IsOnWay l.forks.tree l.self l.key l.fn.id.0 l.at.0

abbrev pub decreases-loop-prev : goal.decreases-loop-prev
decreases-loop-prev l = length (line l.forks.tree l.at.0)
