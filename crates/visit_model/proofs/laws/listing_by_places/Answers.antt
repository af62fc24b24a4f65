use Rattle.visit_model.proofs.ListedPlaces.{listing_steps-places}
use Rattle.visit_model.proofs.laws.listing_by_places.Goals as goal

pub returns : goal.returns
returns c = listing_steps-places
