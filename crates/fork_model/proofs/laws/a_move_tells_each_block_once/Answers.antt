use Rattle.fork_model.proofs.Told.{all-told}
use Rattle.fork_model.proofs.laws.a_move_tells_each_block_once.Goals as goal

pub returns : goal.returns
returns c = all-told
