use Rattle.fork_tree.proofs.Fates.{IsSorted}
use Rattle.fork_tree.proofs.plans.dropped_by.Given as goal

abbrev pub invariant-loop-place : goal.invariant-loop-place
invariant-loop-place l = IsSorted l.blocks l.id.0 l.place l.descends.items l.dropped.items l.met
