use Rattle.std.proofs.Common.{length}
use Rattle.fork_model.specs.Trees.{line}
use Rattle.flat_store.specs.Kept.{changes_of, deltas_of}
use Rattle.flat_store.proofs.Ways.{IsGathered}
use Rattle.flat_store.proofs.maps.note_way.Given as goal

abbrev pub invariant-loop-prev : goal.invariant-loop-prev
invariant-loop-prev l = IsGathered l.forks.tree (deltas_of l.deltas.entries) l.fn.id.0 l.at.0 (changes_of l.initial.newest.entries) (changes_of l.newest.entries)

abbrev pub decreases-loop-prev : goal.decreases-loop-prev
decreases-loop-prev l = length (line l.forks.tree l.at.0)
