use Rattle.std.proofs.Common.{refl, ap, sym, ◌∙◌}
use Rattle.std.specs.Option.{is_some}
use Rattle.byte_model.specs.Below.{sum_below}
use Rattle.node_codec.proofs.Children.{bits-some, bits-none}
use Rattle.node_codec.proofs.writing.bitmap.Goals as goal
use Rattle.node_codec.proofs.writing.bitmap.Goals.{then-is_some, else-is_some}

pub loop-i-init : goal.loop-i-init
unfolding sum_below
loop-i-init c = refl

pub loop-i-preserved : goal.loop-i-preserved
loop-i-preserved c =
    let asked = ap is_some (sym c.get.ensures.value) ∙ sym c.is_some.ensures in
    elim c.if-is_some.branch [
      | then-is_some w ↦ w.bits-is ∙ bits-some c.args.kids.now c.loop-i.i c.loop-i.bits c.loop-i-test.true c.loop-i.invariant (asked ∙ w.if-is_some.true)
      | else-is_some w ↦ w.bits-is ∙ bits-none c.args.kids.now c.loop-i.i c.loop-i.bits c.loop-i.invariant (asked ∙ w.if-is_some.false)
    ]
