use Rattle.recording_model.proofs.Complete.{holds-agrees}
use Rattle.recording_model.proofs.laws.holding_tables_agree.Goals as goal

pub returns : goal.returns
returns c = holds-agrees
