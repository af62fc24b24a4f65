use Rattle.base_core.proofs.KeptMaps.{kept-none, shown-none}
use Rattle.base_core.proofs.changes.Changes.new.Goals as goal

pub invariant_of-result : goal.invariant_of-result
invariant_of-result c = kept-none _ _ c.new.ensures.empty c.requires

pub returns-clause-changes : goal.returns-clause-changes
returns-clause-changes c = shown-none _ c.new.ensures.empty
