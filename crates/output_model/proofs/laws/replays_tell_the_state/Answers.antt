use Rattle.output_model.proofs.Replayed.{told-texts, told-output}
use Rattle.output_model.proofs.laws.replays_tell_the_state.Goals as goal

pub returns-clause-texts : goal.returns-clause-texts
returns-clause-texts c = told-texts

pub returns-clause-output : goal.returns-clause-output
returns-clause-output c = told-output
