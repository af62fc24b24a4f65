use Rattle.std.proofs.Common.{arith, refl, ◌∙◌}
use Rattle.fork_model.proofs.Worked.{a-a_for_b, a-with_a, all_of_forks, b-a_for_b, b-with_a, key_a, key_b, keys-a_for_b, keys-empty, keys-set_a, none-twice, two_keys, with_a}
use Rattle.fork_model.proofs.examples.states_on_two_forks.Goals as goal

pub returns-clause-first : goal.returns-clause-first
unfolding all_of_forks
returns-clause-first c = two_keys _ _ _ _ a-with_a b-with_a

pub returns-clause-sibling : goal.returns-clause-sibling
unfolding all_of_forks
returns-clause-sibling c = two_keys _ _ _ _ a-a_for_b b-a_for_b

pub returns-clause-over : goal.returns-clause-over
unfolding all_of_forks
returns-clause-over c = two_keys _ _ _ _ (none-twice with_a key_a ∙ a-with_a) (none-twice with_a key_b ∙ b-with_a)

pub returns-clause-over_after_move : goal.returns-clause-over_after_move
unfolding all_of_forks
returns-clause-over_after_move c = two_keys _ _ _ _ (none-twice with_a key_a ∙ a-with_a) (none-twice with_a key_b ∙ b-with_a)

pub returns-clause-dropped : goal.returns-clause-dropped
unfolding all_of_forks
returns-clause-dropped c = refl

pub returns-clause-kept_changes : goal.returns-clause-kept_changes
unfolding all_of_forks
returns-clause-kept_changes c = omega (arith, keys-set_a, keys-a_for_b, keys-empty)

pub returns-clause-kept_after_move : goal.returns-clause-kept_after_move
unfolding all_of_forks
returns-clause-kept_after_move c = omega (arith, keys-empty)
