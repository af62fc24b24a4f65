use Rattle.fork_model.proofs.Told.{heights}
use Rattle.fork_model.proofs.laws.heights_rise_over_prevs.Goals as goal

pub returns : goal.returns
returns c = heights
