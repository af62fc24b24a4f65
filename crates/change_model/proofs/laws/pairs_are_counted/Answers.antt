use Rattle.change_model.proofs.Balance.{pairs_counted}
use Rattle.change_model.proofs.laws.pairs_are_counted.Goals as goal

pub returns : goal.returns
returns c = pairs_counted
