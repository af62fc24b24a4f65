use Rattle.partial_model.proofs.Reading.{listed-prefix}
use Rattle.partial_model.proofs.laws.no_partial_state_begins_another.Goals as goal

pub returns : goal.returns
returns c = listed-prefix
