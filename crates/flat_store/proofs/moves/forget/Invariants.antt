use Rattle.std.proofs.Common.{◌≡◌, ◌≤◌, ℕ, List, take, length}
use Rattle.std.specs.FinMap.{get}
use Rattle.std.specs.HashMap.{spare}
use Rattle.flat_store.specs.Flats.{left_of}
use Rattle.flat_store.specs.Kept.{deltas_of}
use Rattle.flat_store.proofs.moves.forget.Given as goal

abbrev pub invariant-loop-place : goal.invariant-loop-place
invariant-loop-place l =
    ((id : List ℕ) → get (deltas_of l.deltas.entries) id ≡ left_of (take l.place l.ids) id (get (deltas_of l.initial.deltas.entries) id)) × (length l.deltas.entries ≤ length l.initial.deltas.entries)
    × (spare l.initial.deltas ≤ spare l.deltas)
