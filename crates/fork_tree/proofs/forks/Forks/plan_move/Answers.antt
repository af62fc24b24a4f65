use Rattle.std.proofs.Common.{length, map, drop, is_some, refl, sym, ◌∙◌, ap, subst, arith}
use Rattle.base_core.specs.declared.hash.Digest.{Digest}
use Rattle.fork_model.specs.Trees.{dropped, is_live, line}
use Rattle.fork_tree.specs.Kept.{AreLinked, id_at, tree_of}
use Rattle.fork_tree.proofs.Planned.{answered, line_some, plan-is, place-id, passed_on, removed-first}
use Rattle.fork_tree.proofs.Kept.{placed-live, placed-within}
use Rattle.fork_tree.proofs.forks.Forks.plan_move.Goals as goal

pub returns-in_default-clause-not_live : goal.returns-in_default-clause-not_live
returns-in_default-clause-not_live c =
    let dead = ap (λ s. is_live s.tree c.args.id.now.0) (sym c.self.view_is) ∙ sym (placed-live _ _ c.self.invariant.kept c.args.id.now.0) ∙ ap is_some (sym c.in_default.ensures.value) in
    (λ _. dead, λ _. refl)

pub line_to-requires-clause-within : goal.line_to-requires-clause-within
line_to-requires-clause-within c =
    let w = placed-within _ _ c.self.invariant.kept c.args.id.now.0 _ c.in-Some.ensures.value in
    let l = c.self.inside.live.ok.0 in
    omega (arith, w, l, c.deref.ensures.len)

pub line_to-requires-clause-linked : goal.line_to-requires-clause-linked
line_to-requires-clause-linked c = subst (λ blocks. AreLinked blocks (length blocks)) (sym c.deref.ensures.value) c.self.invariant.kept.linked

pub returns-in_err-line-clause-not_live : goal.returns-in_err-line-clause-not_live
returns-in_err-line-clause-not_live c =
    let live = ap (λ s. is_live s.tree c.args.id.now.0) (sym c.self.view_is) ∙ sym (placed-live _ _ c.self.invariant.kept c.args.id.now.0) ∙ ap is_some (sym c.in-Some.ensures.value) in
    passed_on _ _ c.from_residual.ensures.1 live

pub dropped_by-requires-clause-linked : goal.dropped_by-requires-clause-linked
dropped_by-requires-clause-linked c = subst (λ blocks. AreLinked blocks (length blocks)) (sym c.deref-2.ensures.value) c.self.invariant.kept.linked

pub dropped_by-requires-clause-live : goal.dropped_by-requires-clause-live
dropped_by-requires-clause-live c =
    ap (λ bs. is_live (tree_of bs) c.args.id.now.0) c.deref-2.ensures.value ∙ sym (placed-live _ _ c.self.invariant.kept c.args.id.now.0) ∙ ap is_some (sym c.in-Some.ensures.value)

pub dropped_by-requires-clause-through : goal.dropped_by-requires-clause-through
dropped_by-requires-clause-through c =
    ap (map (λ (k : Digest). k.0)) c.deref-3.ensures.value
    ∙ c.in_ok-line.ensures
    ∙ ap (λ bs. line (tree_of bs) (id_at bs c.in-Some.place.now)) c.deref.ensures.value
    ∙ ap (line (tree_of c.self.inside.live.items)) (place-id _ _ c.self.invariant.kept c.args.id.now.0 _ c.in-Some.ensures.value)
    ∙ ap (λ bs. line (tree_of bs) c.args.id.now.0) (sym c.deref-2.ensures.value)

pub returns-in_err-dropped-clause-not_live : goal.returns-in_err-dropped-clause-not_live
returns-in_err-dropped-clause-not_live c =
    let live = ap (λ s. is_live s.tree c.args.id.now.0) (sym c.self.view_is) ∙ sym (placed-live _ _ c.self.invariant.kept c.args.id.now.0) ∙ ap is_some (sym c.in-Some.ensures.value) in
    passed_on _ _ c.from_residual-in_err-dropped.ensures.1 live

pub remove-requires : goal.remove-requires
remove-requires c =
    let live = sym (placed-live _ _ c.self.invariant.kept c.args.id.now.0) ∙ ap is_some (sym c.in-Some.ensures.value) in
    let whole = c.in_ok-line.ensures ∙ ap (λ bs. line (tree_of bs) (id_at bs c.in-Some.place.now)) c.deref.ensures.value ∙ ap (line (tree_of c.self.inside.live.items)) (place-id _ _ c.self.invariant.kept c.args.id.now.0 _ c.in-Some.ensures.value) in
    let some = line_some (tree_of c.self.inside.live.items) c.self.invariant.kept.tree c.args.id.now.0 live c.in_ok-line.line.items whole in
    let l = c.in_ok-line.line.ok.0 in
    omega (arith, some, l)

pub returns-clause-not_live : goal.returns-clause-not_live
returns-clause-not_live c =
    let live = ap (λ s. is_live s.tree c.args.id.now.0) (sym c.self.view_is) ∙ sym (placed-live _ _ c.self.invariant.kept c.args.id.now.0) ∙ ap is_some (sym c.in-Some.ensures.value) in
    answered _ _ live

pub returns-clause-plan : goal.returns-clause-plan
returns-clause-plan c =
    let live = sym (placed-live _ _ c.self.invariant.kept c.args.id.now.0) ∙ ap is_some (sym c.in-Some.ensures.value) in
    let whole = c.in_ok-line.ensures ∙ ap (λ bs. line (tree_of bs) (id_at bs c.in-Some.place.now)) c.deref.ensures.value ∙ ap (line (tree_of c.self.inside.live.items)) (place-id _ _ c.self.invariant.kept c.args.id.now.0 _ c.in-Some.ensures.value) in
    plan-is _ _ c.args.id.now.0 _ (ap (λ s. s.tree) c.self.view_is) live
    (c.new.ensures ∙ ap (map (λ (k : Digest). k.0)) c.remove.ensures.items ∙ removed-first c.in_ok-line.line.items ∙ ap (drop 1) whole)
    (c.new-2.ensures ∙ c.in_ok-dropped.ensures ∙ ap (λ bs. dropped (tree_of bs) c.args.id.now.0) c.deref-2.ensures.value)
