use Rattle.recording_model.proofs.Complete.{holds-passes}
use Rattle.recording_model.proofs.laws.nothing_is_refused_over_state.Goals as goal

pub returns : goal.returns
returns c = holds-passes
