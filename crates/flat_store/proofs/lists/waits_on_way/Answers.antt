use Rattle.std.proofs.Common.{sym, subst, ◌∙◌}
use Rattle.std.specs.List.{AllByRecursion}
use Rattle.fork_model.specs.Trees.{passed}
use Rattle.flat_store.specs.Kept.{IsClear, deltas_of}
use Rattle.flat_store.proofs.Listing.{clear-beside, clear-without}
use Rattle.flat_store.proofs.lists.waits_on_way.Goals as goal

pub returns-in-Some : goal.returns-in-Some
returns-in-Some c = λ no.
    subst (λ newest. AllByRecursion (IsClear newest (deltas_of c.args.deltas.now.entries) c.args.key.now) (passed c.args.forks.now.tree c.args.id.now.0)) (sym c.in-Some.is)
    (clear-beside c.args.forks.now.tree (deltas_of c.args.deltas.now.entries) c.args.key.now c.args.id.now.0 c.in-Some.newest c.nearest.result c.requires.tree c.requires.live (sym c.eq.ensures ∙ no) c.nearest.ensures)

pub returns-in-None : goal.returns-in-None
returns-in-None c = λ no.
    subst (λ newest. AllByRecursion (IsClear newest (deltas_of c.args.deltas.now.entries) c.args.key.now) (passed c.args.forks.now.tree c.args.id.now.0)) (sym c.in-None.is)
    (clear-without (deltas_of c.args.deltas.now.entries) c.args.key.now (passed c.args.forks.now.tree c.args.id.now.0))
