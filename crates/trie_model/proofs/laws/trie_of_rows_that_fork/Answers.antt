use Rattle.trie_model.proofs.Growth.{common_prefix-ends, tree_of-spread}
use Rattle.trie_model.proofs.laws.trie_of_rows_that_fork.Goals as goal

pub returns-clause-ends : goal.returns-clause-ends
returns-clause-ends c = common_prefix-ends

pub returns-clause-branch : goal.returns-clause-branch
returns-clause-branch c = tree_of-spread
