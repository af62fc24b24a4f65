use Rattle.std.proofs.Common.{◌≡◌, None, [], sym, ◌∙◌, subst}
use Rattle.std.specs.Option.{unwrap_or}
use Rattle.byte_model.specs.Nibbles.{AreBytes}
use Rattle.batch_model.specs.Changes.{IsChange}
use Rattle.base_core.specs.ChangeMaps.{changed}
use Rattle.base_core.specs.KeptMaps.{shown_map, refusal_of}
use Rattle.base_core.proofs.KeptMaps.{kept-taken, shown-put, taken_key, taken_value}
use Rattle.base_core.proofs.ChangeMaps.{change_of}
use Rattle.base_core.proofs.changes.Changes.change.Goals as goal

pub invariant_of-self : goal.invariant_of-self
invariant_of-self c =
    let key_is = c.as_slice.ensures ∙ sym c.into_bytes.ensures in
    let taken : refusal_of (shown_map c.self.inside.changes.entries) c.self.inside.most c.into_bytes.result.items (unwrap_or c.args.value []) ≡ None = (λ i. refusal_of (shown_map c.self.inside.changes.entries) c.self.inside.most (sym key_is i) (sym c.bytes_of-bytes.ensures i)) ∙ sym c.refusal.ensures.refusal ∙ c.in_default.is in
    let change : IsChange (c.into_bytes.result.items, c.args.value) = change_of _ c.args.value (subst AreBytes key_is c.refusal.ensures.key) (taken_key _ _ _ _ taken) (subst AreBytes c.bytes_of-bytes.ensures c.refusal.ensures.value) (taken_value _ _ _ _ taken) in
    kept-taken c.insert.result _ _ _ c.into_bytes.result c.args.value (unwrap_or c.args.value []) c.self.invariant c.insert.ensures.entries c.insert.ensures.err taken change

pub returns-in-Ok-clause-ok : goal.returns-in-Ok-clause-ok
returns-in-Ok-clause-ok c =
    let now = shown-put _ _ c.into_bytes.result c.args.value c.self.invariant.sorted c.in-Ok.ensures.entries in
    (λ i. record { changes = now i; most = c.self.inside.most }) ∙ (λ i. changed (c.self.view_is i) (c.into_bytes.ensures i) c.args.value)
