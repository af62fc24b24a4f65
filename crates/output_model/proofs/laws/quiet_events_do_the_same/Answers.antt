use Rattle.output_model.proofs.Quiet.{quiet-goes_on, quiet-ends, quiet-outside, quiet-inside}
use Rattle.output_model.specs.Histories.{history_step}
use Rattle.output_model.proofs.laws.quiet_events_do_the_same.Goals as goal

pub returns-clause-goes_on : goal.returns-clause-goes_on
returns-clause-goes_on c = λ limits number history asked. quiet-goes_on (history_step limits number history asked)

pub returns-clause-ends : goal.returns-clause-ends
returns-clause-ends c = λ limits number history asked. quiet-ends (history_step limits number history asked)

pub returns-clause-outside : goal.returns-clause-outside
returns-clause-outside c = quiet-outside

pub returns-clause-inside : goal.returns-clause-inside
returns-clause-inside c = quiet-inside
