use Rattle.record_model.proofs.Nodes.{record_in-found, record_in-only}
use Rattle.record_model.proofs.laws.records_are_read_exactly.Goals as goal

pub returns-clause-found : goal.returns-clause-found
returns-clause-found c = λ bytes small. (record_in-found bytes small).given

pub returns-clause-only : goal.returns-clause-only
returns-clause-only c = record_in-only
