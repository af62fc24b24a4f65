use Rattle.count_model.proofs.Clashing.{with-none, with-told, within-none, within-told}
use Rattle.count_model.proofs.laws.least_clashes_are_told.Goals as goal

pub returns-clause-within : goal.returns-clause-within
returns-clause-within c = within-told

pub returns-clause-none_within : goal.returns-clause-none_within
returns-clause-none_within c = within-none

pub returns-clause-with_held : goal.returns-clause-with_held
returns-clause-with_held c = λ name held made digest. with-told name made held digest

pub returns-clause-none_with_held : goal.returns-clause-none_with_held
returns-clause-none_with_held c = λ name held made. with-none name made held
