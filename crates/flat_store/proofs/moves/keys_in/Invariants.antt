use Rattle.std.proofs.Common.{◌≡◌, ◌≤◌, ◌+◌, ◌*◌, drop, length}
use Rattle.batch_model.specs.Changes.{most_changes}
use Rattle.flat_store.specs.Kept.{deltas_of, keys_along}
use Rattle.flat_store.proofs.moves.keys_in.Given as goal

abbrev pub invariant-loop-place : goal.invariant-loop-place
invariant-loop-place l =
    (l.keys + keys_along (deltas_of l.deltas.entries) (drop l.place l.ids) ≡ keys_along (deltas_of l.deltas.entries) l.ids) × (l.keys ≤ l.place * most_changes) × (l.place ≤ length l.ids)
