use Rattle.partial_model.proofs.Reading.{partial_in-found, partial_in-only, partial_at-found, partial_at-only}
use Rattle.partial_model.proofs.laws.partial_states_are_read_exactly.Goals as goal

pub returns-clause-found : goal.returns-clause-found
returns-clause-found c = λ bytes small. (partial_in-found bytes small).given

pub returns-clause-only : goal.returns-clause-only
returns-clause-only c = partial_in-only

pub returns-clause-found_first : goal.returns-clause-found_first
returns-clause-found_first c = λ cursor small. (partial_at-found cursor small).given

pub returns-clause-only_first : goal.returns-clause-only_first
returns-clause-only_first c = partial_at-only
