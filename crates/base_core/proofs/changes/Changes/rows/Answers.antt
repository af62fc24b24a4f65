use Rattle.base_core.proofs.KeptMaps.{entries-shown}
use Rattle.base_core.proofs.changes.Changes.rows.Goals as goal

pub returns-clause-rows : goal.returns-clause-rows
returns-clause-rows c = rw (← c.self.view_is, entries-shown _ c.self.invariant.sorted) c.rows_of.ensures
