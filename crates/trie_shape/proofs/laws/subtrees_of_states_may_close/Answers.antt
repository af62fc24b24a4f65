use Rattle.trie_shape.proofs.States.{place-may_close}
use Rattle.trie_shape.proofs.laws.subtrees_of_states_may_close.Goals as goal

pub returns : goal.returns
returns c = place-may_close
