use Rattle.std.proofs.Common.{refl, sym, subst, arith}
use Rattle.fork_tree.specs.Kept.{AreLinked, IsLinked}
use Rattle.fork_tree.proofs.Kept.{length-same}
use Rattle.fork_tree.proofs.Linking.{linking-more, linking-none}
use Rattle.fork_tree.proofs.links.link_all.Goals as goal

pub loop-place-init : goal.loop-place-init
loop-place-init c = (linking-none c.args.blocks.now.items, refl)

pub links_at-links-requires-clause-linked : goal.links_at-links-requires-clause-linked
links_at-links-requires-clause-linked c = subst (λ bs. AreLinked bs c.loop-place.place) (sym c.deref.ensures.value) c.loop-place.invariant.0.linked

pub loop-place-preserved : goal.loop-place-preserved
loop-place-preserved c = (
  linking-more c.args.blocks.now.items c.loop-place.blocks.items c.loop-place.place c.index_mut.result.now c.links_at-links.result c.index_mut.ensures.value c.loop-place.invariant.0
      (subst (λ bs. IsLinked bs c.loop-place.place c.links_at-links.result) c.deref.ensures.value c.links_at-links.ensures),
  c.loop-place.invariant.1,
)

pub returns-clause-linked : goal.returns-clause-linked
returns-clause-linked c =
    let same = length-same c.loop-place.blocks.items c.args.blocks.now.items c.loop-place.invariant.0.headers in
    let l = c.args.blocks.now.ok.0 in
    λ place block within at. c.loop-place.invariant.0.linked place block (omega (arith, same, l, within, c.len-place-end.ensures, c.loop-place-test.false)) at
