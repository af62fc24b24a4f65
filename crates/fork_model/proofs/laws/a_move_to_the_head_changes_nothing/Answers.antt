use Rattle.fork_model.proofs.Partition.{dropped-head}
use Rattle.fork_model.proofs.Passed.{passed-head}
use Rattle.fork_model.proofs.Told.{head-states-stay, head-stays}
use Rattle.fork_model.proofs.laws.a_move_to_the_head_changes_nothing.Goals as goal

pub returns-clause-tree : goal.returns-clause-tree
returns-clause-tree c = head-stays

pub returns-clause-passed : goal.returns-clause-passed
returns-clause-passed c = passed-head

pub returns-clause-dropped : goal.returns-clause-dropped
returns-clause-dropped c = dropped-head

pub returns-clause-states : goal.returns-clause-states
returns-clause-states c = head-states-stay
