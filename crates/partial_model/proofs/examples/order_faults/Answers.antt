use Rattle.std.proofs.Common.{refl}
use Rattle.partial_model.proofs.Worked.{everything}
use Rattle.partial_model.proofs.examples.order_faults.Goals as goal

pub returns-clause-twice : goal.returns-clause-twice
unfolding everything
returns-clause-twice c = refl

pub returns-clause-falling : goal.returns-clause-falling
unfolding everything
returns-clause-falling c = refl

pub returns-clause-first : goal.returns-clause-first
unfolding everything
returns-clause-first c = refl

pub returns-clause-layout_first : goal.returns-clause-layout_first
unfolding everything
returns-clause-layout_first c = refl
