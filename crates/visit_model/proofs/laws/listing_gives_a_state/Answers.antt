use Rattle.visit_model.proofs.ListedRows.{listing-bytes, listing-state}
use Rattle.visit_model.proofs.laws.listing_gives_a_state.Goals as goal

pub returns-clause-bytes : goal.returns-clause-bytes
returns-clause-bytes c = listing-bytes

pub returns-clause-state : goal.returns-clause-state
returns-clause-state c = listing-state
