use Rattle.trie_shape.proofs.States.{place-shaped}
use Rattle.trie_shape.proofs.laws.branches_of_states_may_close.Goals as goal

pub returns : goal.returns
returns c = place-shaped
