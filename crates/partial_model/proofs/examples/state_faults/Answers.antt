use Rattle.std.proofs.Common.{refl}
use Rattle.partial_model.proofs.Worked.{everything}
use Rattle.partial_model.proofs.examples.state_faults.Goals as goal

pub returns-clause-order : goal.returns-clause-order
unfolding everything
returns-clause-order c = refl

pub returns-clause-rest : goal.returns-clause-rest
unfolding everything
returns-clause-rest c = refl

pub returns-clause-cut : goal.returns-clause-cut
unfolding everything
returns-clause-cut c = refl
