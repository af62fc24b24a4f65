use Rattle.count_model.proofs.Following.{follows-block, follows-move, follows-start}
use Rattle.count_model.proofs.laws.tables_follow_blocks.Goals as goal

pub returns-clause-start : goal.returns-clause-start
returns-clause-start c = follows-start

pub returns-clause-block : goal.returns-clause-block
returns-clause-block c = follows-block

pub returns-clause-moved : goal.returns-clause-moved
returns-clause-moved c = follows-move
