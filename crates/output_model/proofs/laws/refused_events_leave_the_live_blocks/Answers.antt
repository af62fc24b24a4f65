use Rattle.count_model.specs.BlockEnds.{too_many, clashing}
use Rattle.output_model.proofs.Told.{step-accepted, step-refused, step-ended, step-moved, step-not_live, step-stays}
use Rattle.output_model.proofs.laws.refused_events_leave_the_live_blocks.Goals as goal

pub returns-clause-accepted : goal.returns-clause-accepted
returns-clause-accepted c = step-accepted

pub returns-clause-refused : goal.returns-clause-refused
returns-clause-refused c = step-refused

pub returns-clause-full : goal.returns-clause-full
returns-clause-full c = λ limits number forks header changes e. step-ended limits number forks header changes too_many e

pub returns-clause-clash : goal.returns-clause-clash
returns-clause-clash c = λ limits number forks header changes digest e. step-ended limits number forks header changes (clashing digest) e

pub returns-clause-moved : goal.returns-clause-moved
returns-clause-moved c = step-moved

pub returns-clause-not_live : goal.returns-clause-not_live
returns-clause-not_live c = step-not_live

pub returns-clause-others : goal.returns-clause-others
returns-clause-others c = step-stays
