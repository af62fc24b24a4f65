use Rattle.std.proofs.Common.{◌≡◌}
use Rattle.byte_model.specs.Below.{sum_below}
use Rattle.byte_model.specs.Node.{child_bit}
use Rattle.node_codec.specs.Meanings.{children_in}
use Rattle.node_codec.proofs.writing.bitmap.Given as goal

abbrev pub invariant-loop-i : goal.invariant-loop-i
invariant-loop-i l = l.bits ≡ sum_below (child_bit (children_in l.kids)) l.i
