use Rattle.count_model.proofs.Clashing.{rising-first, rising-none, rising-within}
use Rattle.count_model.proofs.laws.clashes_in_rising_order.Goals as goal

pub returns-clause-within : goal.returns-clause-within
returns-clause-within c = rising-within

pub returns-clause-none : goal.returns-clause-none
returns-clause-none c = rising-none

pub returns-clause-first : goal.returns-clause-first
returns-clause-first c = rising-first
