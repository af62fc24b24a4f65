use Rattle.std.proofs.Common.{refl}
use Rattle.record_model.proofs.Worked.{everything}
use Rattle.record_model.proofs.examples.whole_records.Goals as goal

pub returns-clause-one_pair : goal.returns-clause-one_pair
unfolding everything
returns-clause-one_pair c = refl

pub returns-clause-empty_key : goal.returns-clause-empty_key
unfolding everything
returns-clause-empty_key c = refl

pub returns-clause-one_nibble : goal.returns-clause-one_nibble
unfolding everything
returns-clause-one_nibble c = refl
