use Rattle.std.proofs.Common.{arith, sym, ◌∙◌}
use Rattle.std.proofs.lemmas.Grind.{common_steps}
use Rattle.byte_model.specs.Below.{joined_below}
use Rattle.byte_model.specs.Node.{spelled_children}
use Rattle.node_codec.proofs.Children.{digests-some, digests-none}
use Rattle.node_codec.proofs.writing.put_children.Goals as goal
use Rattle.node_codec.proofs.writing.put_children.Goals.{in-Some+in_ok-put_raw, in_default}

pub loop-i-init : goal.loop-i-init
unfolding joined_below
loop-i-init c = grind (arith, common_steps)

pub loop-i-preserved : goal.loop-i-preserved
loop-i-preserved c =
    elim c.match-get.branch [
      | in-Some+in_ok-put_raw w ↦
          let more = digests-some c.args.kids.now c.loop-i.i w.in-Some.digest (sym c.get.ensures.value ∙ w.in-Some.is) in
          grind (arith, common_steps)
      | in_default w ↦
          let more = digests-none c.args.kids.now c.loop-i.i (sym c.get.ensures.value ∙ w.in_default.is) in
          grind (arith, common_steps)
    ]

pub returns : goal.returns
unfolding spelled_children
returns c = grind (arith, common_steps)
