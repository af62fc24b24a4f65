use Rattle.std.proofs.Common.{refl}
use Rattle.partial_model.proofs.Worked.{everything}
use Rattle.partial_model.proofs.examples.field_faults.Goals as goal

pub returns-clause-no_root : goal.returns-clause-no_root
unfolding everything
returns-clause-no_root c = refl

pub returns-clause-many_reads : goal.returns-clause-many_reads
unfolding everything
returns-clause-many_reads c = refl

pub returns-clause-long_key : goal.returns-clause-long_key
unfolding everything
returns-clause-long_key c = refl

pub returns-clause-cut_key : goal.returns-clause-cut_key
unfolding everything
returns-clause-cut_key c = refl

pub returns-clause-same_key : goal.returns-clause-same_key
unfolding everything
returns-clause-same_key c = refl

pub returns-clause-no_kind : goal.returns-clause-no_kind
unfolding everything
returns-clause-no_kind c = refl
