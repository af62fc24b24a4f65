use Rattle.std.proofs.Common.{Some, ap, ◌∙◌}
use Rattle.base_core.proofs.KeptMaps.{get-shown}
use Rattle.base_core.proofs.changes.Changes.get.Goals as goal

pub returns-in-Some : goal.returns-in-Some
returns-in-Some c = rw (← c.self.view_is, get-shown _ c.args.key.now c.self.invariant.sorted) (ap Some c.value_of.ensures ∙ c.in-Some.ensures.value)

pub returns-in-None : goal.returns-in-None
returns-in-None c = rw (← c.self.view_is, get-shown _ c.args.key.now c.self.invariant.sorted) c.in-None.ensures.value
