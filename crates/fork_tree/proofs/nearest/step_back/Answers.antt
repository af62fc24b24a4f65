use Rattle.std.proofs.Common.{length, arith}
use Rattle.fork_tree.proofs.Before.{jump-earlier, links-at}
use Rattle.fork_tree.proofs.Cuts.{cut-over, cut-step}
use Rattle.fork_tree.proofs.nearest.step_back.Goals as goal

pub returns-then-links-place-clause-earlier : goal.returns-then-links-place-clause-earlier
returns-then-links-place-clause-earlier c = jump-earlier c.args.blocks.now (length c.args.blocks.now) c.requires.linked c.args.at _ c.requires.within c.requires.within (omega (arith, c.requires.behind))

pub returns-then-links-place-clause-cut : goal.returns-then-links-place-clause-cut
returns-then-links-place-clause-cut c = λ start cut.
    let link = links-at c.args.blocks.now (length c.args.blocks.now) c.requires.linked c.args.at _ c.requires.within c.requires.within in
    cut-over c.args.blocks.now start c.args.at _ c.args.place (c.if-links-place.true) cut link.cut

pub returns-else-links-place-clause-earlier : goal.returns-else-links-place-clause-earlier
returns-else-links-place-clause-earlier c =
    (links-at c.args.blocks.now (length c.args.blocks.now) c.requires.linked c.args.at _ c.requires.within c.requires.within).earlier (omega (arith, c.requires.behind))

pub returns-else-links-place-clause-cut : goal.returns-else-links-place-clause-cut
returns-else-links-place-clause-cut c = λ start cut.
    let link = links-at c.args.blocks.now (length c.args.blocks.now) c.requires.linked c.args.at _ c.requires.within c.requires.within in
    cut-step c.args.blocks.now c.requires.tree start c.args.at _ c.args.place c.requires.within c.requires.behind (link.prev (omega (arith, c.requires.behind))) cut
