use Rattle.fork_model.proofs.Told.{first-head, first-moved}
use Rattle.fork_model.proofs.laws.head_comes_first.Goals as goal

pub returns-clause-always : goal.returns-clause-always
returns-clause-always c = first-head

pub returns-clause-moved : goal.returns-clause-moved
returns-clause-moved c = first-moved
