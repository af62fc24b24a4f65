use Rattle.std.proofs.Common.{refl}
use Rattle.fork_model.proofs.Worked.{all_of_forks}
use Rattle.fork_model.proofs.examples.blocks_after_the_move.Goals as goal

pub returns-clause-known : goal.returns-clause-known
unfolding all_of_forks
returns-clause-known c = refl

pub returns-clause-itself : goal.returns-clause-itself
unfolding all_of_forks
returns-clause-itself c = refl

pub returns-clause-no_prev : goal.returns-clause-no_prev
unfolding all_of_forks
returns-clause-no_prev c = refl

pub returns-clause-passed_prev : goal.returns-clause-passed_prev
unfolding all_of_forks
returns-clause-passed_prev c = refl

pub returns-clause-height : goal.returns-clause-height
unfolding all_of_forks
returns-clause-height c = refl

pub returns-clause-height_first : goal.returns-clause-height_first
unfolding all_of_forks
returns-clause-height_first c = refl

pub returns-clause-full : goal.returns-clause-full
unfolding all_of_forks
returns-clause-full c = refl

pub returns-clause-again : goal.returns-clause-again
unfolding all_of_forks
returns-clause-again c = refl

pub returns-clause-start_again : goal.returns-clause-start_again
unfolding all_of_forks
returns-clause-start_again c = refl

pub returns-clause-line_again : goal.returns-clause-line_again
unfolding all_of_forks
returns-clause-line_again c = refl

pub returns-clause-refused : goal.returns-clause-refused
unfolding all_of_forks
returns-clause-refused c = refl
