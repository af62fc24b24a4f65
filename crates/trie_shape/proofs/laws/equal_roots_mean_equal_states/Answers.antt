use Rattle.trie_model.proofs.Distinct.{root-same}
use Rattle.trie_shape.proofs.laws.equal_roots_mean_equal_states.Goals as goal

pub returns : goal.returns
returns c = root-same
