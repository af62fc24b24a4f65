use Rattle.visit_model.proofs.Roots.{top_visits-empty, top_visits-state}
use Rattle.visit_model.proofs.laws.top_over_state.Goals as goal

pub returns-clause-empty : goal.returns-clause-empty
returns-clause-empty c = top_visits-empty

pub returns-clause-some : goal.returns-clause-some
returns-clause-some c = top_visits-state
