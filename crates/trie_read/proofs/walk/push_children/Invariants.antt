use Rattle.node_codec.specs.Children.{children_viewed}
use Rattle.trie_read.proofs.Children.{TakenUp}
use Rattle.trie_read.proofs.walk.push_children.Given as goal

abbrev pub invariant-loop-nibble : goal.invariant-loop-nibble
invariant-loop-nibble l = TakenUp (children_viewed l.kids) l.depth l.bound l.fn.pending.items l.pending.items l.nibble

abbrev pub decreases-loop-nibble : goal.decreases-loop-nibble
decreases-loop-nibble l = l.nibble
