use Rattle.std.proofs.Common.{◌≡◌, drop, is_some}
use Rattle.std.specs.List.{list_any}
use Rattle.std.specs.FinMap.{get}
use Rattle.flat_store.specs.Kept.{deltas_of, ids_in}
use Rattle.flat_store.proofs.lists.any_held.Given as goal

abbrev pub invariant-loop-id : goal.invariant-loop-id
invariant-loop-id l = list_any (λ id. is_some (get (deltas_of l.deltas.entries) id)) (ids_in l.ids) ≡ list_any (λ id. is_some (get (deltas_of l.deltas.entries) id)) (ids_in (drop l.id-index l.ids))
