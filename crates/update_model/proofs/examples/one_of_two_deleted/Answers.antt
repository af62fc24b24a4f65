use Rattle.std.proofs.Common.{map, refl, ◌∙◌, ap}
use Rattle.hex.specs.Hex.{encode_lower}
use Rattle.change_model.proofs.Worked.{worked}
use Rattle.update_model.proofs.Worked.{all_of_updates, outcome_of, outcome-told}
use Rattle.update_model.proofs.examples.one_of_two_deleted.Goals as goal

pub returns-clause-top : goal.returns-clause-top
unfolding all_of_updates
returns-clause-top c = ap (λ o. o.top) (outcome-told _ _) ∙ worked (λ pairs later changes. (outcome_of pairs later changes).top) _ _ _ tt tt refl

pub returns-clause-made : goal.returns-clause-made
unfolding all_of_updates
returns-clause-made c = ap (λ o. o.made) (outcome-told _ _) ∙ worked (λ pairs later changes. (outcome_of pairs later changes).made) _ _ _ tt tt refl

pub returns-clause-lost : goal.returns-clause-lost
unfolding all_of_updates
returns-clause-lost c = ap (λ o. map encode_lower o.lost) (outcome-told _ _) ∙ worked (λ pairs later changes. map encode_lower (outcome_of pairs later changes).lost) _ _ _ tt tt refl

pub returns-clause-fresh : goal.returns-clause-fresh
unfolding all_of_updates
returns-clause-fresh c = ap (λ o. o.fresh) (outcome-told _ _) ∙ worked (λ pairs later changes. (outcome_of pairs later changes).fresh) _ _ _ tt tt refl

pub returns-clause-gone : goal.returns-clause-gone
unfolding all_of_updates
returns-clause-gone c = ap (λ o. o.gone) (outcome-told _ _) ∙ worked (λ pairs later changes. (outcome_of pairs later changes).gone) _ _ _ tt tt refl
