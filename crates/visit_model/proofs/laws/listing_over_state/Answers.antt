use Rattle.std.proofs.Common.{◌∙◌}
use Rattle.visit_model.proofs.Listings.{reads-state, rows_from-pairs}
use Rattle.visit_model.proofs.laws.listing_over_state.Goals as goal

pub returns-clause-rows : goal.returns-clause-rows
returns-clause-rows c = λ table state from most holds is. (reads-state table state from most holds is).values

pub returns-clause-pairs : goal.returns-clause-pairs
returns-clause-pairs c = λ table state from most holds is. (reads-state table state from most holds is).values ∙ rows_from-pairs state from most

pub returns-clause-refusal : goal.returns-clause-refusal
returns-clause-refusal c = λ table state from most holds is. (reads-state table state from most holds is).refusal
