use Rattle.std.proofs.Common.{◌≤◌, length}
use Rattle.std.specs.HashMap.{spare}
use Rattle.flat_store.specs.Kept.{deltas_of, head_of}
use Rattle.flat_store.proofs.Passing.{IsPassing}
use Rattle.flat_store.proofs.moves.lay_passed.Given as goal

abbrev pub invariant-loop-place : goal.invariant-loop-place
invariant-loop-place l =
    IsPassing (deltas_of l.initial.deltas.entries) (deltas_of l.deltas.entries) l.passed l.place (head_of l.initial.head.entries) (head_of l.head.entries) (spare l.head) × (length l.deltas.entries ≤ length l.initial.deltas.entries)
    × (spare l.initial.deltas ≤ spare l.deltas)
