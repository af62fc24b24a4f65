use Rattle.std.proofs.Common.{◌<◌, length, refl, sym, ap, subst, ◌∙◌}
use Rattle.std.specs.FinMap.{entries, get}
use Rattle.base_core.specs.Bounds.{most_blocks}
use Rattle.fork_model.specs.Trees.{BlockTree, Header, grown}
use Rattle.flat_store.specs.Flats.{Deltas}
use Rattle.flat_store.proofs.Together.{together-add, together-few, together-new, together-stay}
use Rattle.flat_store.proofs.tests.offer.Goals as goal

pub add-requires-2-clause-few : goal.add-requires-2-clause-few
add-requires-2-clause-few c =
    subst (λ (m : Deltas). length (entries m) < most_blocks) (sym c.in_ok-reserve-2.ensures.deltas)
    (together-few c.args.forks.now.most c.args.forks.now.tree (record { id = c.id-block.result.0; prev = c.id-prev.result.0; height = c.args.n }) c.args.flat.now c.requires.one c.in-Ok.ensures.accepted c.requires.most)

pub add-requires-2-clause-new : goal.add-requires-2-clause-new
add-requires-2-clause-new c =
    ap (λ (m : Deltas). get m c.id-block.result.0) c.in_ok-reserve-2.ensures.deltas
    ∙ together-new c.args.forks.now.most c.args.forks.now.tree (record { id = c.id-block.result.0; prev = c.id-prev.result.0; height = c.args.n }) c.args.flat.now c.requires.one c.in-Ok.ensures.accepted

pub returns-clause-one : goal.returns-clause-one
returns-clause-one c =
    let header : Header = record { id = c.id-block.result.0; prev = c.id-prev.result.0; height = c.args.n } in
    let ready = together-stay c.args.forks.now.tree c.args.forks.now.tree c.args.flat.now c.reserve-2.new.self c.requires.one refl c.in_ok-reserve-2.ensures.state in
    together-add c.args.forks.now.most c.args.forks.now.tree header c.reserve-2.new.self ready c.in-Ok.ensures.accepted c.args.changes.changes c.add.new.self.tree c.add-2.new.self
    (c.add.ensures.tree ∙ ap (λ (t : BlockTree). grown t header) c.in_ok-reserve.ensures.tree) c.add-2.ensures.state
