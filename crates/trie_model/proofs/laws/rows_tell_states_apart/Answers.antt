use Rattle.trie_model.proofs.Roots.{rows_of-same}
use Rattle.trie_model.proofs.laws.rows_tell_states_apart.Goals as goal

pub returns : goal.returns
returns c = rows_of-same
