use Rattle.output_model.specs.Root.{root_script}
use Rattle.output_model.specs.Histories.{history_script}
use Rattle.output_model.proofs.FirstLine.{end_outcome, first_outcome}
use Rattle.output_model.proofs.laws.first_line_decides.Goals as goal

pub returns-clause-end : goal.returns-clause-end
returns-clause-end c = λ limits. end_outcome (root_script limits)

pub returns-clause-line : goal.returns-clause-line
returns-clause-line c = λ limits. first_outcome (root_script limits)

pub returns-clause-history_end : goal.returns-clause-history_end
returns-clause-history_end c = λ quiet limits request access. end_outcome (history_script quiet limits request access)

pub returns-clause-history_line : goal.returns-clause-history_line
returns-clause-history_line c = λ quiet limits request access. first_outcome (history_script quiet limits request access)
