use Rattle.visit_model.proofs.ListedRows.{listing-rises, listing-few, listing-fits}
use Rattle.visit_model.proofs.laws.listing_rises.Goals as goal

pub returns-clause-rising : goal.returns-clause-rising
returns-clause-rising c = listing-rises

pub returns-clause-count : goal.returns-clause-count
returns-clause-count c = listing-few

pub returns-clause-rows : goal.returns-clause-rows
returns-clause-rows c = listing-fits
