use Rattle.output_model.proofs.Told.{block_told}
use Rattle.output_model.proofs.laws.lines_of_a_block_are_its_changes.Goals as goal

pub returns : goal.returns
returns c = block_told
