use Rattle.trie_model.proofs.Trees.{tree_by-tree_of, tree_within-enough}
use Rattle.trie_model.proofs.laws.trie_by_three_cases.Goals as goal

pub returns-clause-cases : goal.returns-clause-cases
returns-clause-cases c = tree_by-tree_of

pub returns-clause-bounds : goal.returns-clause-bounds
returns-clause-bounds c = tree_within-enough
