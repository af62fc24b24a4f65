use Rattle.trie_model.proofs.Roots.{NoClash-held}
use Rattle.trie_model.proofs.laws.held_texts_do_not_clash.Goals as goal

pub returns : goal.returns
returns c = NoClash-held
