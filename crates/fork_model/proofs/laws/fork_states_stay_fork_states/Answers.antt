use Rattle.fork_model.proofs.States.{first-is}
use Rattle.fork_model.proofs.Told.{states-block, states-move}
use Rattle.fork_model.proofs.laws.fork_states_stay_fork_states.Goals as goal

pub returns-clause-start : goal.returns-clause-start
returns-clause-start c = first-is

pub returns-clause-block : goal.returns-clause-block
returns-clause-block c = states-block

pub returns-clause-head : goal.returns-clause-head
returns-clause-head c = λ forks id is. states-move forks id is
