use Rattle.change_model.proofs.Unchanged.{made_before}
use Rattle.change_model.proofs.laws.nothing_new_without_change.Goals as goal

pub returns : goal.returns
returns c = made_before
