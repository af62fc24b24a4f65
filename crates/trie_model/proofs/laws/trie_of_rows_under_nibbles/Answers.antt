use Rattle.trie_model.proofs.Growth.{tree_of-under, tree_of-prefix, grown-grown}
use Rattle.trie_model.proofs.laws.trie_of_rows_under_nibbles.Goals as goal

pub returns-clause-under : goal.returns-clause-under
returns-clause-under c = tree_of-under

pub returns-clause-prefix : goal.returns-clause-prefix
returns-clause-prefix c = tree_of-prefix

pub returns-clause-twice : goal.returns-clause-twice
returns-clause-twice c = grown-grown
