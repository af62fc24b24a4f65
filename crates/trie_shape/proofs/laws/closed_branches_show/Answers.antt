use Rattle.trie_shape.proofs.Shows.{branch-shown}
use Rattle.trie_shape.proofs.laws.closed_branches_show.Goals as goal

pub returns : goal.returns
returns c = branch-shown
