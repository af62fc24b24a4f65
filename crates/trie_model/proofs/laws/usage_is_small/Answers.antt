use Rattle.trie_model.proofs.Bounds.{usage-lt}
use Rattle.trie_model.proofs.laws.usage_is_small.Goals as goal

pub returns : goal.returns
returns c = usage-lt
