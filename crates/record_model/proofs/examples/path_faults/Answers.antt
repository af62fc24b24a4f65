use Rattle.std.proofs.Common.{refl}
use Rattle.record_model.proofs.Worked.{everything}
use Rattle.record_model.proofs.examples.path_faults.Goals as goal

pub returns-clause-no_flag : goal.returns-clause-no_flag
unfolding everything
returns-clause-no_flag c = refl

pub returns-clause-no_leaf : goal.returns-clause-no_leaf
unfolding everything
returns-clause-no_leaf c = refl

pub returns-clause-filled : goal.returns-clause-filled
unfolding everything
returns-clause-filled c = refl

pub returns-clause-filled_first : goal.returns-clause-filled_first
unfolding everything
returns-clause-filled_first c = refl

pub returns-clause-layout_first : goal.returns-clause-layout_first
unfolding everything
returns-clause-layout_first c = refl
