use Rattle.std.proofs.Common.{refl}
use Rattle.record_model.proofs.Worked.{everything}
use Rattle.record_model.proofs.examples.layout_faults.Goals as goal

pub returns-clause-no_bytes : goal.returns-clause-no_bytes
unfolding everything
returns-clause-no_bytes c = refl

pub returns-clause-cut : goal.returns-clause-cut
unfolding everything
returns-clause-cut c = refl

pub returns-clause-longer : goal.returns-clause-longer
unfolding everything
returns-clause-longer c = refl

pub returns-clause-no_kind : goal.returns-clause-no_kind
unfolding everything
returns-clause-no_kind c = refl
