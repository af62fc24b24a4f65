use Rattle.std.proofs.Common.{is_some, ap, ◌∙◌, arith}
use Rattle.std.proofs.lemmas.Bool.{false≢true}
use Rattle.fork_model.specs.Trees.{is_live}
use Rattle.fork_tree.proofs.Kept.{placed-live, placed-within}
use Rattle.fork_tree.proofs.Searching.{nearest-told}
use Rattle.fork_tree.proofs.forks.Forks.nearest.Goals as goal

pub unreachable-requires : goal.unreachable-requires
unreachable-requires c = false≢true (ap is_some c.in_default.ensures.value ∙ placed-live _ _ c.self.invariant.kept c.args.id.now.0 ∙ ap (λ s. is_live s.tree c.args.id.now.0) c.self.view_is ∙ c.requires)

pub nearest_to-place-requires-clause-within : goal.nearest_to-place-requires-clause-within
nearest_to-place-requires-clause-within c =
    let w = placed-within _ _ c.self.invariant.kept c.args.id.now.0 _ c.in-Some.ensures.value in
    let l = c.self.inside.live.ok.0 in
    omega (arith, w, l, c.deref.ensures.len)

pub returns : goal.returns
returns c =
    nearest-told c.self.inside.live.items c.deref.result.now c.self.inside.places.entries _ _ c.args.id.now.0 c.in-Some.start.now c.nearest_to-place.result c.index.result.now c.self.invariant.kept c.deref.ensures.value
    (ap (λ s. s.tree) c.self.view_is) c.in-Some.ensures.value c.nearest_to-place.ensures.within c.index.ensures c.nearest_to-place.ensures.nearest
