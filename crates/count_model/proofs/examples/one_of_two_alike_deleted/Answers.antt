use Rattle.std.proofs.Common.{refl}
use Rattle.change_model.proofs.Worked.{all_of_batches}
use Rattle.count_model.proofs.Worked.{all_of_counts, counts_along, counts_passed, digests_along, distinct_along, on_line}
use Rattle.count_model.proofs.examples.one_of_two_alike_deleted.Goals as goal

pub returns-clause-before : goal.returns-clause-before
unfolding all_of_batches all_of_counts
returns-clause-before c = on_line _ counts_along _ tt tt refl

pub returns-clause-after : goal.returns-clause-after
unfolding all_of_batches all_of_counts
returns-clause-after c = on_line _ counts_passed _ tt tt refl

pub returns-clause-digests : goal.returns-clause-digests
unfolding all_of_batches all_of_counts
returns-clause-digests c = on_line _ digests_along _ tt tt refl

pub returns-clause-distinct : goal.returns-clause-distinct
unfolding all_of_batches all_of_counts
returns-clause-distinct c = on_line _ distinct_along _ tt tt refl
