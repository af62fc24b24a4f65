use Rattle.std.proofs.Common.{length}
use Rattle.std.specs.FinMap.{entries}
use Rattle.std.specs.HashMap.{spare}
use Rattle.flat_store.specs.Kept.{head_of}
use Rattle.flat_store.proofs.Laying.{IsLaying}
use Rattle.flat_store.proofs.moves.lay_over.Given as goal

abbrev pub invariant-loop-key : goal.invariant-loop-key
invariant-loop-key l = IsLaying (head_of l.initial.head.entries) (head_of l.head.entries) l.initial.changes.changes l.changes.changes (spare l.initial.head) (spare l.head)

abbrev pub decreases-loop-key : goal.decreases-loop-key
decreases-loop-key l = length (entries l.changes.changes)
