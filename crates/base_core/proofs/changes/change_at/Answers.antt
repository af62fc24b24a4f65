use Rattle.std.proofs.Common.{Some, sym, ap, ◌∙◌}
use Rattle.std.specs.List.{slice_get}
use Rattle.base_core.specs.KeptMaps.{shown_entries}
use Rattle.base_core.proofs.KeptMaps.{nth-shown_entries}
use Rattle.base_core.proofs.changes.change_at.Goals as goal

pub returns : goal.returns
returns c =
    ap (λ es. slice_get (shown_entries es) c.args.place) (sym c.iter.ensures.rest) ∙ sym (nth-shown_entries _ c.nth.new.self c.args.place (Some (c.in-Some.key, c.in-Some.value)) c.in-Some.ensures.ran)
    ∙ (λ i. Some (sym c.as_slice.ensures.value i, sym c.value_of.ensures i))
