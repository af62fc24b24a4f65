use Rattle.script_model.proofs.Asked.{asked-within}
use Rattle.script_model.proofs.laws.lines_keep_to_limits.Goals as goal

pub returns : goal.returns
returns c = asked-within
