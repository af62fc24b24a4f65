use Rattle.std.proofs.Common.{refl}
use Rattle.partial_model.proofs.Worked.{everything}
use Rattle.partial_model.proofs.examples.clash_faults.Goals as goal

pub returns-clause-least : goal.returns-clause-least
unfolding everything
returns-clause-least c = refl

pub returns-clause-zeros : goal.returns-clause-zeros
unfolding everything
returns-clause-zeros c = refl

pub returns-clause-apart : goal.returns-clause-apart
unfolding everything
returns-clause-apart c = refl

pub returns-clause-refused : goal.returns-clause-refused
unfolding everything
returns-clause-refused c = refl

pub returns-clause-order_first : goal.returns-clause-order_first
unfolding everything
returns-clause-order_first c = refl
