use Rattle.trie_model.proofs.Rests.{below-nil, below-append, below-under, under-below}
use Rattle.trie_model.proofs.Costs.{subtree_at-append}
use Rattle.trie_model.proofs.laws.rows_below_a_path.Goals as goal

pub returns-clause-none : goal.returns-clause-none
returns-clause-none c = below-nil

pub returns-clause-further : goal.returns-clause-further
returns-clause-further c = below-append

pub returns-clause-under : goal.returns-clause-under
returns-clause-under c = below-under

pub returns-clause-all : goal.returns-clause-all
returns-clause-all c = under-below

pub returns-clause-subtree : goal.returns-clause-subtree
returns-clause-subtree c = λ state p q. subtree_at-append state p q
