use Rattle.std.proofs.Common.{◌∷◌, Some, sym, ap, subst, ◌∙◌}
use Rattle.std.specs.FinMap.{entries}
use Rattle.batch_model.specs.Changes.{IsChange, most_changes}
use Rattle.base_core.specs.ChangeMaps.{ChangeMap}
use Rattle.base_core.specs.KeptMaps.{IsKeptSorted, shown_map}
use Rattle.base_core.proofs.KeptMaps.{first-is, kept-first, shown-first, shown-nothing}
use Rattle.base_core.proofs.changes.Changes.take_first.Goals as goal

pub returns-in_default-clause-none : goal.returns-in_default-clause-none
returns-in_default-clause-none c = ap (λ es. entries (shown_map es)) c.in_default.ensures.unchanged ∙ shown-nothing c.pop_first.result _ c.in_default.is c.pop_first.ensures.variant.1

pub invariant_of-self-2 : goal.invariant_of-self-2
invariant_of-self-2 c = kept-first c.pop_first.result _ _ _ c.self.invariant c.pop_first.ensures.removal c.pop_first.ensures.unchanged

pub returns-clause-changes : goal.returns-clause-changes
returns-clause-changes c =
    let kept : IsKeptSorted IsChange most_changes c.pop_first.new.self.entries c.self.inside.most = kept-first c.pop_first.result _ _ _ c.self.invariant c.pop_first.ensures.removal c.pop_first.ensures.unchanged in
    ap (λ (h : ChangeMap). entries h.changes) (sym c.self.view_is)
    ∙ shown-first (Some (c.in-Some.key, c.in-Some.value)) _ _ c.self.invariant.sorted kept.sorted c.in-Some.ensures.removal tt
    ∙ (λ i. (sym c.from_bytes.ensures i, c.in-Some.value) ∷ entries (shown_map c.pop_first.new.self.entries))

pub returns-clause-held : goal.returns-clause-held
returns-clause-held c = subst (λ key. IsChange (key, c.in-Some.value)) (sym c.from_bytes.ensures) (first-is (c.in-Some.key, c.in-Some.value) _ _ _ c.self.invariant c.in-Some.ensures.removal)
