use Rattle.std.proofs.Common.{◌≡◌, length, ap, sym, ◌∙◌}
use Rattle.std.proofs.lemmas.List.{nil_from_length}
use Rattle.byte_model.specs.Nibbles.{nibbles}
use Rattle.trie_update.proofs.ChangesAt.{ends-change, left-change, goes-change, left-goes, no-change}
use Rattle.trie_update.proofs.parting.ending.Goals as goal

pub returns-in_default-clause-value : goal.returns-in_default-clause-value
returns-in_default-clause-value c = no-change c.args.depth c.args.changes.now (nil_from_length _ c.in_default.ensures.cases)

pub returns-then-len-depth-clause-value : goal.returns-then-len-depth-clause-value
returns-then-len-depth-clause-value c =
    let ends : length (nibbles c.in-Some.field-0-0.now.0.now) ≡ c.args.depth = sym (ap length c.new.ensures) ∙ sym c.len.ensures ∙ c.if-len-depth.true in
    ends-change c.args.depth c.args.changes.now c.in-Some.rest.now c.in-Some.field-0-0.now c.in-Some.ensures.cases.0 c.requires ends

pub returns-then-len-depth-clause-left : goal.returns-then-len-depth-clause-left
returns-then-len-depth-clause-left c =
    let ends : length (nibbles c.in-Some.field-0-0.now.0.now) ≡ c.args.depth = sym (ap length c.new.ensures) ∙ sym c.len.ensures ∙ c.if-len-depth.true in
    left-change c.args.depth c.args.changes.now c.in-Some.rest.now c.in-Some.field-0-0.now c.in-Some.ensures.cases.0 c.requires ends

pub returns-else-len-depth-clause-value : goal.returns-else-len-depth-clause-value
returns-else-len-depth-clause-value c =
    goes-change c.args.depth c.args.changes.now c.in-Some.rest.now c.in-Some.field-0-0.now c.in-Some.ensures.cases.0 c.requires (λ e. c.if-len-depth.false (c.len.ensures ∙ ap length c.new.ensures ∙ e))

pub returns-else-len-depth-clause-left : goal.returns-else-len-depth-clause-left
returns-else-len-depth-clause-left c =
    left-goes c.args.depth c.args.changes.now c.in-Some.rest.now c.in-Some.field-0-0.now c.in-Some.ensures.cases.0 c.requires (λ e. c.if-len-depth.false (c.len.ensures ∙ ap length c.new.ensures ∙ e))
