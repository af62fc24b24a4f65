use Rattle.fork_model.proofs.Lines.{line-head}
use Rattle.fork_model.proofs.Told.{found_live, line-over}
use Rattle.fork_model.proofs.Passed.{line-passed}
use Rattle.fork_model.proofs.laws.lines_go_over_prevs.Goals as goal

pub returns-clause-head : goal.returns-clause-head
returns-clause-head c = line-head

pub returns-clause-over : goal.returns-clause-over
returns-clause-over c = line-over

pub returns-clause-passed : goal.returns-clause-passed
returns-clause-passed c = λ tree id is live. let b = found_live _ live in line-passed tree is id b.0 b.1
