use Rattle.trie_shape.proofs.Shows.{branch-uses}
use Rattle.trie_shape.proofs.laws.branches_use_what_their_rows_do.Goals as goal

pub returns : goal.returns
returns c = branch-uses
