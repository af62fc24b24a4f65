use Rattle.partial_model.proofs.Falls.{falls_found}
use Rattle.partial_model.proofs.laws.falls_are_found.Goals as goal

pub returns : goal.returns
returns c = falls_found
