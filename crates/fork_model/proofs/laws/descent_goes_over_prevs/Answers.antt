use Rattle.fork_model.proofs.Descent.{descends-head, descends-itself}
use Rattle.fork_model.proofs.Told.{descent-over, found_live}
use Rattle.fork_model.proofs.laws.descent_goes_over_prevs.Goals as goal

pub returns-clause-itself : goal.returns-clause-itself
returns-clause-itself c = λ tree id is live. let b = found_live _ live in descends-itself tree is id b.0 b.1

pub returns-clause-over : goal.returns-clause-over
returns-clause-over c = descent-over

pub returns-clause-head : goal.returns-clause-head
returns-clause-head c = λ tree from is. descends-head tree is from
