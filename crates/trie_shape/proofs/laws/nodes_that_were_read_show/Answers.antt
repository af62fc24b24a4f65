use Rattle.trie_shape.proofs.Shows.{read-shown}
use Rattle.trie_shape.proofs.laws.nodes_that_were_read_show.Goals as goal

pub returns : goal.returns
returns c = read-shown
