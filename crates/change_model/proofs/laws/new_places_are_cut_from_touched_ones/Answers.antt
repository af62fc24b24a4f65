use Rattle.change_model.proofs.Cuts.{cut_from_touched}
use Rattle.change_model.proofs.laws.new_places_are_cut_from_touched_ones.Goals as goal

pub returns : goal.returns
returns c = cut_from_touched
