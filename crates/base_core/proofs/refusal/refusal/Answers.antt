use Rattle.std.proofs.Common.{◌≡◌, false, ◌≤◌, length, arith, sym, inl, inr, ap, ◌∙◌, is_some}
use Rattle.std.specs.FinMap.{entries, contains_key}
use Rattle.base_core.specs.KeptMaps.{shown_map}
use Rattle.base_core.proofs.KeptMaps.{are_bytes, refusal-full, refusal-none, get-shown, length-shown}
use Rattle.base_core.proofs.refusal.refusal.Goals as goal
use Rattle.base_core.proofs.refusal.refusal.Goals.{else-len-most-via-then-len-most+else-not-contains_key, else-len-most-via-else-len-most}

pub returns-then-not-contains_key-clause-refusal : goal.returns-then-not-contains_key-clause-refusal
returns-then-not-contains_key-clause-refusal g c =
    let count = length-shown c.args.held.now.entries c.requires in
    let full : c.args.most ≤ length (entries (shown_map c.args.held.now.entries)) = omega (arith, count, c.len.ensures.len, c.if-len-most.true) in
    let new : contains_key (shown_map c.args.held.now.entries) c.args.key.now ≡ false = ap is_some (get-shown _ c.args.key.now c.requires) ∙ sym c.contains_key.ensures ∙ c.if-not-contains_key.true in
    sym (refusal-full _ _ _ _ c.if-key_len-gt-LONGEST_KEY.false c.if-value_len-gt-LONGEST_VALUE.false full new)

pub returns-then-not-contains_key-clause-key : goal.returns-then-not-contains_key-clause-key
returns-then-not-contains_key-clause-key g c = are_bytes _ c.type_inv.key

pub returns-then-not-contains_key-clause-value : goal.returns-then-not-contains_key-clause-value
returns-then-not-contains_key-clause-value g c = are_bytes _ c.type_inv.value

pub returns-else-len-most-clause-refusal : goal.returns-else-len-most-clause-refusal
returns-else-len-most-clause-refusal g c =
    let count = length-shown c.args.held.now.entries c.requires in
    elim c.else-len-most.branch [
      | else-len-most-via-then-len-most+else-not-contains_key w ↦ sym (refusal-none _ _ _ _ c.if-key_len-gt-LONGEST_KEY.false c.if-value_len-gt-LONGEST_VALUE.false
          (inr (ap is_some (get-shown _ c.args.key.now c.requires) ∙ sym w.contains_key.ensures ∙ w.if-not-contains_key.false)))
      | else-len-most-via-else-len-most w ↦ sym (refusal-none _ _ _ _ c.if-key_len-gt-LONGEST_KEY.false c.if-value_len-gt-LONGEST_VALUE.false (inl (omega (arith, count, c.len.ensures.len, w.if-len-most.false))))
    ]

pub returns-else-len-most-clause-key : goal.returns-else-len-most-clause-key
returns-else-len-most-clause-key g c = are_bytes _ c.type_inv.key

pub returns-else-len-most-clause-value : goal.returns-else-len-most-clause-value
returns-else-len-most-clause-value g c = are_bytes _ c.type_inv.value
