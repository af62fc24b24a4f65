use Rattle.recording_model.proofs.Costs.{recording-loaded}
use Rattle.recording_model.proofs.laws.recordings_have_a_cost.Goals as goal

pub returns : goal.returns
returns c = λ table state reads changes holds is bytes are. recording-loaded table state holds is changes reads bytes are
