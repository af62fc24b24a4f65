use Rattle.trie_model.proofs.Shapes.{sound-node_of}
use Rattle.trie_model.proofs.laws.nodes_fit_records.Goals as goal

pub returns : goal.returns
returns c = sound-node_of
