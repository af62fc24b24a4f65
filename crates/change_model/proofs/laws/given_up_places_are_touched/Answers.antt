use Rattle.change_model.proofs.Touched.{given_up_is_touched}
use Rattle.change_model.proofs.laws.given_up_places_are_touched.Goals as goal

pub returns : goal.returns
returns c = given_up_is_touched
