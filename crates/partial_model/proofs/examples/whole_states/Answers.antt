use Rattle.std.proofs.Common.{refl}
use Rattle.partial_model.proofs.Worked.{everything}
use Rattle.partial_model.proofs.examples.whole_states.Goals as goal

pub returns-clause-none : goal.returns-clause-none
unfolding everything
returns-clause-none c = refl

pub returns-clause-none_read : goal.returns-clause-none_read
unfolding everything
returns-clause-none_read c = refl

pub returns-clause-two : goal.returns-clause-two
unfolding everything
returns-clause-two c = refl

pub returns-clause-two_read : goal.returns-clause-two_read
unfolding everything
returns-clause-two_read c = refl
