use Rattle.change_model.proofs.Touched.{no_branch_above}
use Rattle.change_model.proofs.laws.no_branch_above_what_remains.Goals as goal

pub returns : goal.returns
returns c = no_branch_above
