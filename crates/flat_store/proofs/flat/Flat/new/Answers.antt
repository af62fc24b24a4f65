use Rattle.flat_store.proofs.Follows.{flat-first}
use Rattle.flat_store.proofs.Kept.{kept-none}
use Rattle.flat_store.proofs.Tables.{deltas-none, map-empty}
use Rattle.flat_store.proofs.flat.Flat.new.Goals as goal

pub invariant_of-result : goal.invariant_of-result
invariant_of-result c = kept-none _ _ _ c.new.ensures.empty c.new-2.ensures.empty

pub returns-clause-state : goal.returns-clause-state
returns-clause-state c = flat-first _ (map-empty _ c.new.ensures.empty) (deltas-none _ c.new-2.ensures.empty)
