use Rattle.trie_model.proofs.Costs.{usage-node_of, total-places_of}
use Rattle.trie_model.proofs.laws.usage_sums_costs.Goals as goal

pub returns-clause-step : goal.returns-clause-step
returns-clause-step c = usage-node_of

pub returns-clause-total : goal.returns-clause-total
returns-clause-total c = total-places_of
