use Rattle.std.proofs.Common.{arith}
use Rattle.fork_tree.proofs.Cuts.{cut-less, cut-start}
use Rattle.fork_tree.proofs.nearest.resume.Goals as goal

pub returns-then-place-search-clause-cut : goal.returns-then-place-search-clause-cut
returns-then-place-search-clause-cut c = λ cut. cut-start c.args.blocks.now c.args.start c.args.place

pub returns-else-place-search-clause-cut : goal.returns-else-place-search-clause-cut
returns-else-place-search-clause-cut c = λ cut. cut-less c.args.blocks.now c.args.start c.args.search.at c.args.search.reach c.args.place (omega (arith, c.if-place-search.false)) cut
