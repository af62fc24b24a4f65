use Rattle.count_model.proofs.Held.{state-is}
use Rattle.count_model.proofs.Limits.{states-moved, states-start, states-with_block}
use Rattle.count_model.proofs.laws.live_states_keep_to_limits.Goals as goal

pub returns-clause-start : goal.returns-clause-start
returns-clause-start c = states-start

pub returns-clause-block : goal.returns-clause-block
returns-clause-block c = states-with_block

pub returns-clause-moved : goal.returns-clause-moved
returns-clause-moved c = states-moved

pub returns-clause-states : goal.returns-clause-states
returns-clause-states c = state-is
