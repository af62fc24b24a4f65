use Rattle.trie_model.proofs.Distinct.{root-same}
use Rattle.trie_model.proofs.laws.roots_tell_states_apart.Goals as goal

pub returns : goal.returns
returns c = root-same
