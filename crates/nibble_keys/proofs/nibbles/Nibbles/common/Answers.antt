use Rattle.std.proofs.Common.{drop, arith, sym, ◌∙◌, length-drop}
use Rattle.std.proofs.lemmas.List.{take_rest}
use Rattle.byte_model.proofs.Digits.{length-nibbles}
use Rattle.nibble_keys.proofs.NibbleLists.{length-view}
use Rattle.nibble_keys.proofs.CommonLengths.{common-whole, common-half}
use Rattle.nibble_keys.proofs.nibbles.Nibbles.common.Goals as goal

pub at-requires : goal.at-requires
at-requires c =
    let long = length-view c.self.inside.key.now c.args.self.now c.self.inside.start c.self.view_is in
    omega arith

pub at-requires-else-low-eq0 : goal.at-requires-else-low-eq0
at-requires-else-low-eq0 c =
    let long = length-view c.other.inside.key.now c.args.other.now c.other.inside.start c.other.view_is in
    omega arith

pub overflow_add-result : goal.overflow_add-result
overflow_add-result c =
    let common = simp take_rest at c.common_of_keys-then-at.ensures in
    omega (arith, common.in_first, length-nibbles (drop c.div_ceil.result c.self.inside.key.now), length-drop c.div_ceil.result c.self.inside.key.now)

pub returns-then-low-eq0 : goal.returns-then-low-eq0
returns-then-low-eq0 c =
    common-whole c.self.inside.key.now c.other.inside.key.now c.args.self.now c.args.other.now
    c.self.inside.start c.other.inside.start c.div_ceil.result c.div_ceil-2.result _
    c.self.view_is c.other.view_is (omega arith) (omega arith) (simp take_rest at c.common_of_keys.ensures)

pub returns-then-at : goal.returns-then-at
returns-then-at c =
    common-half c.self.inside.key.now c.other.inside.key.now c.args.self.now c.args.other.now
    c.self.inside.start c.other.inside.start c.div_ceil.result c.div_ceil-2.result _
    c.self.view_is c.other.view_is (omega arith) (omega arith) (omega arith) (omega arith) (sym c.at.ensures.value ∙ (c.if-at.true ∙ c.at-else-low-eq0.ensures.value)) (simp take_rest at c.common_of_keys-then-at.ensures)
