use Rattle.std.proofs.Common.{◌≡◌, ◌++◌}
use Rattle.byte_model.specs.Below.{joined_below}
use Rattle.byte_model.specs.Node.{child_digest}
use Rattle.node_codec.specs.Meanings.{children_in}
use Rattle.node_codec.proofs.writing.put_children.Given as goal

abbrev pub invariant-loop-i : goal.invariant-loop-i
invariant-loop-i l = l.writer ≡ l.initial.writer ++ joined_below (λ i. child_digest (children_in l.kids i)) l.i
