use Rattle.count_model.proofs.Held.{roots-live}
use Rattle.count_model.proofs.laws.equal_roots_mean_equal_live_states.Goals as goal

pub returns : goal.returns
returns c = roots-live
