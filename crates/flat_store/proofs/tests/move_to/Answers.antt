use Rattle.flat_store.proofs.Together.{together-moved, together-same, together-tree}
use Rattle.flat_store.proofs.tests.move_to.Goals as goal

pub move_head-requires : goal.move_head-requires
move_head-requires c = (c.args.forks.now.tree, c.id.result.0, together-tree _ _ c.requires.one, c.in_ok-plan.ensures.plan, together-same _ _ c.requires.one)

pub returns : goal.returns
returns c = record { one = together-moved _ _ _ _ c.id.result.0 c.in_ok-plan.plan c.requires.one c.in_ok-plan.ensures.plan (c.commit_move.ensures.tree c.id.result.0 c.in_ok-plan.ensures.plan) c.in_ok-move_head.ensures.state }
