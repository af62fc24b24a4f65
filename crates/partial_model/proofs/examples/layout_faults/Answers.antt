use Rattle.std.proofs.Common.{refl}
use Rattle.partial_model.proofs.Worked.{everything}
use Rattle.partial_model.proofs.examples.layout_faults.Goals as goal

pub returns-clause-no_bytes : goal.returns-clause-no_bytes
unfolding everything
returns-clause-no_bytes c = refl

pub returns-clause-first_byte : goal.returns-clause-first_byte
unfolding everything
returns-clause-first_byte c = refl

pub returns-clause-cut : goal.returns-clause-cut
unfolding everything
returns-clause-cut c = refl

pub returns-clause-longer : goal.returns-clause-longer
unfolding everything
returns-clause-longer c = refl

pub returns-clause-many : goal.returns-clause-many
unfolding everything
returns-clause-many c = refl
