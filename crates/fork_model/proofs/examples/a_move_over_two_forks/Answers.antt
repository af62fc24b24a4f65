use Rattle.std.proofs.Common.{refl}
use Rattle.fork_model.proofs.Worked.{all_of_forks}
use Rattle.fork_model.proofs.examples.a_move_over_two_forks.Goals as goal

pub returns-clause-live : goal.returns-clause-live
unfolding all_of_forks
returns-clause-live c = refl

pub returns-clause-line : goal.returns-clause-line
unfolding all_of_forks
returns-clause-line c = refl

pub returns-clause-below : goal.returns-clause-below
unfolding all_of_forks
returns-clause-below c = refl

pub returns-clause-passed : goal.returns-clause-passed
unfolding all_of_forks
returns-clause-passed c = refl

pub returns-clause-dropped : goal.returns-clause-dropped
unfolding all_of_forks
returns-clause-dropped c = refl

pub returns-clause-head : goal.returns-clause-head
unfolding all_of_forks
returns-clause-head c = refl

pub returns-clause-stay : goal.returns-clause-stay
unfolding all_of_forks
returns-clause-stay c = refl

pub returns-clause-prevs : goal.returns-clause-prevs
unfolding all_of_forks
returns-clause-prevs c = refl
