use Rattle.std.proofs.Common.{rules}
use Rattle.update_model.specs.Joins.{is_there}
use Rattle.trie_update.proofs.joining.has_pairs.Goals as goal

pub returns-in-Empty : goal.returns-in-Empty
unfolding is_there
returns-in-Empty c = search rules

pub returns-in-Leaf : goal.returns-in-Leaf
unfolding is_there
returns-in-Leaf c = search rules

pub returns-in-Branch : goal.returns-in-Branch
unfolding is_there
returns-in-Branch c = search rules

pub returns-in-Extension : goal.returns-in-Extension
unfolding is_there
returns-in-Extension c = search rules
