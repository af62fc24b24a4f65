use Rattle.trie_model.proofs.Children.{children-places_of}
use Rattle.trie_model.proofs.laws.children_are_places.Goals as goal

pub returns : goal.returns
returns c = children-places_of
