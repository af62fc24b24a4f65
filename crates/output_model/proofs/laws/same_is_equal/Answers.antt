use Rattle.output_model.proofs.Same.{states-equal, states-same, text-yes, text-no}
use Rattle.output_model.proofs.laws.same_is_equal.Goals as goal

pub returns-clause-states : goal.returns-clause-states
returns-clause-states c = λ first second. (states-equal first second, states-same first second)

pub returns-clause-yes : goal.returns-clause-yes
returns-clause-yes c = text-yes

pub returns-clause-no : goal.returns-clause-no
returns-clause-no c = text-no
