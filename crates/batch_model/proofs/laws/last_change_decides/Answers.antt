use Rattle.batch_model.proofs.Laying.{get-after, pairs-after}
use Rattle.batch_model.proofs.laws.last_change_decides.Goals as goal

pub returns-clause-values : goal.returns-clause-values
returns-clause-values c = get-after

pub returns-clause-pairs : goal.returns-clause-pairs
returns-clause-pairs c = pairs-after
