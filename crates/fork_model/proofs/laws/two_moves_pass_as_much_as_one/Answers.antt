use Rattle.fork_model.proofs.Told.{moved-twice}
use Rattle.fork_model.proofs.laws.two_moves_pass_as_much_as_one.Goals as goal

pub returns : goal.returns
returns c = moved-twice
