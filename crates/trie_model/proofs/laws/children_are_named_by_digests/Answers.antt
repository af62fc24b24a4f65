use Rattle.trie_model.proofs.Costs.{NamesChildren-node_of}
use Rattle.trie_model.proofs.laws.children_are_named_by_digests.Goals as goal

pub returns : goal.returns
returns c = NamesChildren-node_of
