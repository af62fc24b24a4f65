use Rattle.count_model.proofs.ByEntries.{at_the_end, enough, goes_down, move-begins, way_down}
use Rattle.count_model.proofs.laws.counts_go_down_entry_by_entry.Goals as goal

pub returns-clause-begins : goal.returns-clause-begins
returns-clause-begins c = move-begins

pub returns-clause-enough : goal.returns-clause-enough
returns-clause-enough c = enough

pub returns-clause-step : goal.returns-clause-step
returns-clause-step c = goes_down

pub returns-clause-between : goal.returns-clause-between
returns-clause-between c = way_down

pub returns-clause-end : goal.returns-clause-end
returns-clause-end c = at_the_end
