use Rattle.std.proofs.Common.{List, ℕ, sym, ap, subst}
use Rattle.fork_tree.specs.Nearest.{IsNearest}
use Rattle.flat_store.specs.Flats.{FlatState}
use Rattle.flat_store.specs.Kept.{deltas_of}
use Rattle.flat_store.proofs.Listing.{nearest-on_way}
use Rattle.flat_store.proofs.Lookups.{way-start}
use Rattle.flat_store.proofs.flat.Flat.nearest.Goals as goal

pub returns-then-waits_on_way : goal.returns-then-waits_on_way
returns-then-waits_on_way c = way-start _ _ _ _ c.requires.live

pub returns : goal.returns
returns c =
    nearest-on_way c.self.inside.newest (deltas_of c.self.inside.deltas.entries) c.self.inside.lists.entries c.args.key.now c.self.invariant.listed
    c.args.forks.now.tree c.args.self.now c.args.id.now.0 c.nearest.result.0 (sym (ap (λ (s : FlatState). s.deltas) c.self.view_is)) c.requires.tree c.requires.live
    (c.waits_on_way.ensures c.if-waits_on_way.false)
    (subst (λ (ids : List (List ℕ)). IsNearest c.args.forks.now.tree ids c.args.id.now.0 c.nearest.result.0) c.listed.ensures c.nearest.ensures)
