use Rattle.std.proofs.Common.{◌≡◌, ◌≤◌, ◌+◌, ◌*◌, length}
use Rattle.batch_model.specs.Changes.{most_changes}
use Rattle.base_core.specs.Bounds.{most_blocks}
use Rattle.flat_store.proofs.Counts.{listed}
use Rattle.flat_store.proofs.flat.Flat.entries.Given as goal

abbrev pub invariant-loop-changes : goal.invariant-loop-changes
invariant-loop-changes l = (l.keys + listed l.changes-iterator ≡ listed l.initial.changes-iterator) × (l.keys + length l.changes-iterator * most_changes ≤ most_blocks * most_changes)
