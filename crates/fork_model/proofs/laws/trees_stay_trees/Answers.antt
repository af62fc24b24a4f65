use Rattle.std.proofs.Common.{refl}
use Rattle.fork_model.proofs.Told.{tree-block, tree-move}
use Rattle.fork_model.proofs.laws.trees_stay_trees.Goals as goal

pub returns-clause-start : goal.returns-clause-start
returns-clause-start c = record { grown = refl }

pub returns-clause-block : goal.returns-clause-block
returns-clause-block c = tree-block

pub returns-clause-head : goal.returns-clause-head
returns-clause-head c = λ tree id is. tree-move tree id is
