use Rattle.fork_model.proofs.Told.{bounded-block, bounded-move}
use Rattle.fork_model.proofs.laws.live_blocks_are_bounded.Goals as goal

pub returns-clause-block : goal.returns-clause-block
returns-clause-block c = bounded-block

pub returns-clause-head : goal.returns-clause-head
returns-clause-head c = bounded-move
