use Rattle.count_model.proofs.Ends.{end-accepted, end-fault, end-full, end-live, end-made}
use Rattle.count_model.proofs.laws.blocks_end_by_their_first_cause.Goals as goal

pub returns-clause-fault : goal.returns-clause-fault
returns-clause-fault c = end-fault

pub returns-clause-made : goal.returns-clause-made
returns-clause-made c = end-made

pub returns-clause-full : goal.returns-clause-full
returns-clause-full c = end-full

pub returns-clause-live : goal.returns-clause-live
returns-clause-live c = end-live

pub returns-clause-accepted : goal.returns-clause-accepted
returns-clause-accepted c = end-accepted
