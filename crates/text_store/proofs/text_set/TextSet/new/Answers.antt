use Rattle.std.proofs.Common.{ap}
use Rattle.text_store.specs.TextSets.{set_of_keys}
use Rattle.text_store.proofs.TextSets.{kept-none}
use Rattle.text_store.proofs.text_set.TextSet.new.Goals as goal

pub invariant_of-result : goal.invariant_of-result
invariant_of-result c = kept-none _ c.new.ensures.empty

pub returns : goal.returns
returns c = ap set_of_keys c.new.ensures.empty
