use Rattle.change_model.proofs.Touched.{touched_stays}
use Rattle.change_model.proofs.laws.touched_places_that_stay_are_branches.Goals as goal

pub returns : goal.returns
returns c = touched_stays
