use Rattle.visit_model.proofs.ShownStates.{state_seen}
use Rattle.visit_model.proofs.laws.seen_of_state.Goals as goal

pub returns : goal.returns
returns c = state_seen
