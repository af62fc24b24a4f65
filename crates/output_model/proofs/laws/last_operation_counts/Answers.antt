use Rattle.output_model.proofs.Operations.{get-changes_in, len-changes_in, reads-append}
use Rattle.output_model.proofs.laws.last_operation_counts.Goals as goal

pub returns-clause-changes : goal.returns-clause-changes
returns-clause-changes c = λ key ops. get-changes_in key ops

pub returns-clause-more : goal.returns-clause-more
returns-clause-more c = λ ops further. len-changes_in ops further

pub returns-clause-reads : goal.returns-clause-reads
returns-clause-reads c = λ ops further. reads-append ops further
