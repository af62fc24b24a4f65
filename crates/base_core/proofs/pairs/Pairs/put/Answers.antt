use Rattle.std.proofs.Common.{◌≡◌, None, sym, ◌∙◌, subst}
use Rattle.byte_model.specs.Nibbles.{AreBytes}
use Rattle.trie_model.specs.State.{IsPair}
use Rattle.base_core.specs.PairMaps.{laid}
use Rattle.base_core.specs.KeptMaps.{shown_map, refusal_of}
use Rattle.base_core.proofs.KeptMaps.{kept-taken, shown-put, taken_key, taken_value}
use Rattle.base_core.proofs.pairs.Pairs.put.Goals as goal

pub invariant_of-self : goal.invariant_of-self
invariant_of-self c =
    let key_is = c.as_slice.ensures ∙ sym c.into_bytes.ensures in
    let taken : refusal_of (shown_map c.self.inside.pairs.entries) c.self.inside.most c.into_bytes.result.items c.args.value ≡ None = (λ i. refusal_of (shown_map c.self.inside.pairs.entries) c.self.inside.most (sym key_is i) (sym c.as_slice-2.ensures i)) ∙ sym c.refusal.ensures.refusal ∙ c.in_default.is in
    let pair : IsPair (c.into_bytes.result.items, c.args.value) = record {
      key = subst AreBytes key_is c.refusal.ensures.key;
      key_length = taken_key _ _ _ _ taken;
      value = subst AreBytes c.as_slice-2.ensures c.refusal.ensures.value;
      value_length = taken_value _ _ _ _ taken;
    } in
    kept-taken c.insert.result _ _ _ c.into_bytes.result c.args.value c.args.value c.self.invariant c.insert.ensures.entries c.insert.ensures.err taken pair

pub returns-in-Ok-clause-ok : goal.returns-in-Ok-clause-ok
returns-in-Ok-clause-ok c =
    let now = shown-put _ _ c.into_bytes.result c.args.value c.self.invariant.sorted c.in-Ok.ensures.entries in
    (λ i. record { state = now i; most = c.self.inside.most }) ∙ (λ i. laid (c.self.view_is i) (c.into_bytes.ensures i) c.args.value)
