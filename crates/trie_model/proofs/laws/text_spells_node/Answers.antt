use Rattle.trie_model.specs.Root.{subtree_at}
use Rattle.trie_model.proofs.Costs.{text-node_of}
use Rattle.trie_model.proofs.laws.text_spells_node.Goals as goal

pub returns : goal.returns
returns c = λ state place. text-node_of (subtree_at state place)
