use Rattle.partial_model.proofs.Reading.{listed-exact}
use Rattle.partial_model.proofs.laws.layouts_are_read_exactly.Goals as goal

pub returns : goal.returns
returns c = listed-exact
