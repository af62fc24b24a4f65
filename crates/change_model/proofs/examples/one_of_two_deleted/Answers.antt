use Rattle.std.proofs.Common.{map, refl, ◌∙◌, ap}
use Rattle.hex.specs.Hex.{encode_lower}
use Rattle.change_model.proofs.Worked.{all_of_batches, all_of_visits, visited_of, visited-told, worked, touched_of, touched-told, sizes_of, sizes-told, written_of, written-told, made_of, made-told, gains_of, gains-told, taken_of, taken-told, losses_of, losses-told, fresh_of, fresh-told, gone_of, gone-told}
use Rattle.change_model.proofs.examples.one_of_two_deleted.Goals as goal

pub returns-clause-touched : goal.returns-clause-touched
unfolding all_of_batches
returns-clause-touched c = touched-told _ _ ∙ worked touched_of _ _ _ tt tt refl

pub returns-clause-sizes : goal.returns-clause-sizes
unfolding all_of_batches
returns-clause-sizes c = sizes-told _ _ ∙ worked sizes_of _ _ _ tt tt refl

pub returns-clause-written : goal.returns-clause-written
unfolding all_of_batches
returns-clause-written c = written-told _ _ ∙ worked written_of _ _ _ tt tt refl

pub returns-clause-made : goal.returns-clause-made
unfolding all_of_batches
returns-clause-made c = ap (map encode_lower) (made-told _ _) ∙ worked (λ pairs later changes. map encode_lower (made_of pairs later changes)) _ _ _ tt tt refl

pub returns-clause-gained : goal.returns-clause-gained
unfolding all_of_batches
returns-clause-gained c = gains-told _ _ ∙ worked gains_of _ _ _ tt tt refl

pub returns-clause-taken : goal.returns-clause-taken
unfolding all_of_batches
returns-clause-taken c = ap (map encode_lower) (taken-told _ _) ∙ worked (λ pairs later changes. map encode_lower (taken_of pairs later changes)) _ _ _ tt tt refl

pub returns-clause-lost : goal.returns-clause-lost
unfolding all_of_batches
returns-clause-lost c = losses-told _ _ ∙ worked losses_of _ _ _ tt tt refl

pub returns-clause-fresh : goal.returns-clause-fresh
unfolding all_of_batches
returns-clause-fresh c = fresh-told _ _ ∙ worked fresh_of _ _ _ tt tt refl

pub returns-clause-gone : goal.returns-clause-gone
unfolding all_of_batches
returns-clause-gone c = gone-told _ _ ∙ worked gone_of _ _ _ tt tt refl

pub returns-clause-visited : goal.returns-clause-visited
unfolding all_of_visits
returns-clause-visited c = ap (map encode_lower) (visited-told _ _) ∙ worked (λ pairs later changes. map encode_lower (visited_of pairs later changes)) _ _ _ tt tt refl
