use Rattle.fork_model.proofs.Told.{states-along}
use Rattle.fork_model.proofs.laws.states_are_changed_states_of_prevs.Goals as goal

pub returns-clause-over : goal.returns-clause-over
returns-clause-over c = λ forks id is other. is.states id other

pub returns-clause-along : goal.returns-clause-along
returns-clause-along c = states-along
