use Rattle.flat_store.specs.Kept.{StayListed, deltas_of}
use Rattle.flat_store.proofs.Listing.{AreListing}
use Rattle.flat_store.proofs.lists.list_rows.Given as goal

abbrev pub invariant-loop-row : goal.invariant-loop-row
invariant-loop-row l = StayListed (deltas_of l.deltas.entries) l.initial.lists.entries l.lists.entries × AreListing (deltas_of l.deltas.entries) l.id.0 l.lists.entries l.rows l.row-index
