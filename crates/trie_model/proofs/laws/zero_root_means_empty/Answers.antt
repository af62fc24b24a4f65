use Rattle.trie_model.proofs.Roots.{root-zero}
use Rattle.trie_model.proofs.laws.zero_root_means_empty.Goals as goal

pub returns : goal.returns
returns c = root-zero
