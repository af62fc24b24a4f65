use Rattle.partial_model.proofs.Clashes.{clashes_found, NoClash-of_none, none_of_NoClash}
use Rattle.partial_model.proofs.laws.clashes_are_found.Goals as goal

pub returns-clause-found : goal.returns-clause-found
returns-clause-found c = clashes_found

pub returns-clause-none : goal.returns-clause-none
returns-clause-none c = λ texts rise. (NoClash-of_none texts rise, none_of_NoClash texts rise)
