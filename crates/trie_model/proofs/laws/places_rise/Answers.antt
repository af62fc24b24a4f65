use Rattle.trie_model.proofs.Order.{rising-places_of}
use Rattle.trie_model.proofs.laws.places_rise.Goals as goal

pub returns : goal.returns
returns c = rising-places_of
