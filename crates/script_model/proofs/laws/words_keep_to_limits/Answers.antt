use Rattle.script_model.proofs.Asked.{command-within}
use Rattle.script_model.proofs.laws.words_keep_to_limits.Goals as goal

pub returns : goal.returns
returns c = command-within
