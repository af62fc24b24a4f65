use Rattle.std.proofs.Common.{refl}
use Rattle.fork_model.proofs.States.{tree-after_head, tree-after_offer}
use Rattle.fork_model.proofs.laws.trees_follow_their_blocks.Goals as goal

pub returns-clause-start : goal.returns-clause-start
returns-clause-start c = refl

pub returns-clause-block : goal.returns-clause-block
returns-clause-block c = tree-after_offer

pub returns-clause-head : goal.returns-clause-head
returns-clause-head c = tree-after_head
