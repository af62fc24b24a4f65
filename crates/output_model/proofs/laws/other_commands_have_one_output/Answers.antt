use Rattle.output_model.proofs.Replayed.{one-output}
use Rattle.output_model.proofs.laws.other_commands_have_one_output.Goals as goal

pub returns : goal.returns
returns c = one-output
