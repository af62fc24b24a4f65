use Rattle.fork_model.proofs.Passed.{live-moved}
use Rattle.fork_model.proofs.Told.{states-kept}
use Rattle.fork_model.proofs.laws.a_move_keeps_a_block_and_its_descendants.Goals as goal

pub returns-clause-tree : goal.returns-clause-tree
returns-clause-tree c = live-moved

pub returns-clause-states : goal.returns-clause-states
returns-clause-states c = states-kept
