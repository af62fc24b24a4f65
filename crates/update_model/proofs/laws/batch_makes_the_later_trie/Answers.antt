use Rattle.std.proofs.Common.{◌∙◌, ap}
use Rattle.update_model.proofs.OverStates.{updated-over_state, top-over_state, fresh-over_state, gone-over_state}
use Rattle.update_model.proofs.laws.batch_makes_the_later_trie.Goals as goal

pub returns-clause-top : goal.returns-clause-top
returns-clause-top c = λ table state changes is are some holds. ap (λ o. o.top) (updated-over_state state changes is are some table holds) ∙ top-over_state state changes is are some

pub returns-clause-fresh : goal.returns-clause-fresh
returns-clause-fresh c = λ table state changes is are some holds. ap (λ o. o.fresh) (updated-over_state state changes is are some table holds) ∙ fresh-over_state state changes are some

pub returns-clause-gone : goal.returns-clause-gone
returns-clause-gone c = λ table state changes is are some holds. ap (λ o. o.gone) (updated-over_state state changes is are some table holds) ∙ gone-over_state state changes are some
