use Rattle.std.proofs.Common.{◌≢◌, None, Some, sym, ◌∙◌, ap, arith}
use Rattle.fork_model.specs.Trees.{prev_of}
use Rattle.base_core.proofs.ByteMaps.{apart_by_eq}
use Rattle.fork_tree.specs.Kept.{header_of, tree_of}
use Rattle.fork_tree.proofs.Kept.{head-first, nonempty, placed-none, placed-read, placed-within, prev-found}
use Rattle.fork_tree.proofs.forks.Forks.prev_of.Goals as goal

pub index-requires-in-Some : goal.index-requires-in-Some
index-requires-in-Some c = let w = placed-within _ _ c.self.invariant.kept c.args.id.now.0 _ c.in-Some.ensures.value in let l = c.self.inside.live.ok.0 in omega (arith, w, l)

pub returns-in-Some : goal.returns-in-Some
returns-in-Some c =
    let first = head-first c.self.inside.live.items c.index.result.now (nonempty c.self.inside.live.items c.self.invariant.kept.tree) c.index.ensures in
    let other : c.args.id.now.0 ≢ (tree_of c.self.inside.live.items).head = λ same. apart_by_eq _ _ _ c.if-eq.false c.eq.ensures (same ∙ first) in
    sym (prev-found c.self.inside.live.items c.args.id.now.0 (Some (header_of c.index-in-Some.result.now)) other (placed-read _ _ c.self.invariant.kept c.args.id.now.0 _ c.index-in-Some.result.now c.in-Some.ensures.value c.index-in-Some.ensures))
    ∙ ap (λ s. prev_of s.tree c.args.id.now.0) c.self.view_is

pub returns-in-None : goal.returns-in-None
returns-in-None c =
    let first = head-first c.self.inside.live.items c.index.result.now (nonempty c.self.inside.live.items c.self.invariant.kept.tree) c.index.ensures in
    let other : c.args.id.now.0 ≢ (tree_of c.self.inside.live.items).head = λ same. apart_by_eq _ _ _ c.if-eq.false c.eq.ensures (same ∙ first) in
    sym (prev-found c.self.inside.live.items c.args.id.now.0 None other (placed-none _ _ c.self.invariant.kept c.args.id.now.0 c.in-None.ensures.value))
    ∙ ap (λ s. prev_of s.tree c.args.id.now.0) c.self.view_is
