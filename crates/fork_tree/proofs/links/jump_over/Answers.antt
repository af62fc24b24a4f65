use Rattle.std.proofs.Common.{rules, arith}
use Rattle.fork_tree.proofs.Apart.{some_block}
use Rattle.fork_tree.proofs.Cuts.{second-back, second-cut, second-within}
use Rattle.fork_tree.proofs.links.jump_over.Goals as goal

pub bounds-blocks-second : goal.bounds-blocks-second
bounds-blocks-second c = second-within c.args.blocks.now _ c.args.before _ _ c.requires.linked c.requires.within (omega arith)

pub returns-then-first-second-clause-back : goal.returns-then-first-second-clause-back
returns-then-first-second-clause-back c = second-back c.args.blocks.now _ c.args.before _ _ c.requires.linked c.requires.within (omega arith)

pub returns-then-first-second-clause-cut : goal.returns-then-first-second-clause-cut
returns-then-first-second-clause-cut c = second-cut c.args.blocks.now _ c.args.before _ _ c.requires.linked c.requires.within (omega arith)

pub offset_bounds-blocks-second : goal.offset_bounds-blocks-second
offset_bounds-blocks-second c = let small = second-within c.args.blocks.now _ c.args.before some_block some_block c.requires.linked c.requires.within (omega arith) in search rules
