use Rattle.trie_model.proofs.Pairs.{held_at-places_of}
use Rattle.trie_model.proofs.laws.pairs_stand_at_one_place.Goals as goal

pub returns : goal.returns
returns c = held_at-places_of
