use Rattle.change_model.proofs.Touched.{unwritten_stays}
use Rattle.change_model.proofs.laws.unwritten_places_stay.Goals as goal

pub returns : goal.returns
returns c = unwritten_stays
