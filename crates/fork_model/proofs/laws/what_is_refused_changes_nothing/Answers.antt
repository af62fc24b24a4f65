use Rattle.fork_model.proofs.Told.{refused-block, refused-head, refused-move, refused-states}
use Rattle.fork_model.proofs.laws.what_is_refused_changes_nothing.Goals as goal

pub returns-clause-block : goal.returns-clause-block
returns-clause-block c = refused-block

pub returns-clause-states : goal.returns-clause-states
returns-clause-states c = refused-states

pub returns-clause-head : goal.returns-clause-head
returns-clause-head c = refused-move

pub returns-clause-head_states : goal.returns-clause-head_states
returns-clause-head_states c = refused-head
