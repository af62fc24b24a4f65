use Rattle.count_model.proofs.Clashing.{clear-moved, clear-with_block, unchanged-clear}
use Rattle.count_model.proofs.laws.where_nothing_clashes.Goals as goal

pub returns-clause-block : goal.returns-clause-block
returns-clause-block c = clear-with_block

pub returns-clause-moved : goal.returns-clause-moved
returns-clause-moved c = clear-moved

pub returns-clause-unchanged : goal.returns-clause-unchanged
returns-clause-unchanged c = unchanged-clear
