use Rattle.std.proofs.Common.{refl}
use Rattle.record_model.proofs.Worked.{everything}
use Rattle.record_model.proofs.examples.shape_fault.Goals as goal

pub returns : goal.returns
unfolding everything
returns c = refl
