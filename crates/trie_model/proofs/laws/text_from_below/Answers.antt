use Rattle.trie_model.proofs.Costs.{text_at-same}
use Rattle.trie_model.proofs.laws.text_from_below.Goals as goal

pub returns : goal.returns
returns c = text_at-same
