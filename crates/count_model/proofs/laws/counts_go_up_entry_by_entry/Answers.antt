use Rattle.count_model.proofs.ByEntries.{at_the_end, block-begins, fits, goes_up, way_up}
use Rattle.count_model.proofs.laws.counts_go_up_entry_by_entry.Goals as goal

pub returns-clause-begins : goal.returns-clause-begins
returns-clause-begins c = block-begins

pub returns-clause-fits : goal.returns-clause-fits
returns-clause-fits c = fits

pub returns-clause-step : goal.returns-clause-step
returns-clause-step c = goes_up

pub returns-clause-between : goal.returns-clause-between
returns-clause-between c = way_up

pub returns-clause-end : goal.returns-clause-end
returns-clause-end c = at_the_end
