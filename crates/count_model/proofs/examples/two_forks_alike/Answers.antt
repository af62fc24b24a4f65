use Rattle.std.proofs.Common.{refl}
use Rattle.change_model.proofs.Worked.{all_of_batches}
use Rattle.count_model.proofs.Worked.{all_of_counts, counts_beside, counts_dropped, distinct_along, on_line}
use Rattle.count_model.proofs.examples.two_forks_alike.Goals as goal

pub returns-clause-before : goal.returns-clause-before
unfolding all_of_batches all_of_counts
returns-clause-before c = on_line _ (λ start first second. counts_beside start first first) _ tt tt refl

pub returns-clause-after : goal.returns-clause-after
unfolding all_of_batches all_of_counts
returns-clause-after c = on_line _ counts_dropped _ tt tt refl

pub returns-clause-distinct : goal.returns-clause-distinct
unfolding all_of_batches all_of_counts
returns-clause-distinct c = on_line _ (λ start first second. distinct_along start first first) _ tt tt refl
