use Rattle.std.proofs.Common.{sym, ◌∙◌}
use Rattle.base_core.proofs.KeptMaps.{length-shown}
use Rattle.base_core.proofs.changes.Changes.len.Goals as goal

pub returns-clause-len : goal.returns-clause-len
returns-clause-len c = rw (← c.self.view_is) (c.len.ensures.len ∙ sym (length-shown _ c.self.invariant.sorted))
