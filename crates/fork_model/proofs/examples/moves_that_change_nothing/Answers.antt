use Rattle.std.proofs.Common.{refl}
use Rattle.fork_model.proofs.Worked.{all_of_forks}
use Rattle.fork_model.proofs.examples.moves_that_change_nothing.Goals as goal

pub returns-clause-passed : goal.returns-clause-passed
unfolding all_of_forks
returns-clause-passed c = refl

pub returns-clause-dropped : goal.returns-clause-dropped
unfolding all_of_forks
returns-clause-dropped c = refl

pub returns-clause-head : goal.returns-clause-head
unfolding all_of_forks
returns-clause-head c = refl

pub returns-clause-gone : goal.returns-clause-gone
unfolding all_of_forks
returns-clause-gone c = refl
