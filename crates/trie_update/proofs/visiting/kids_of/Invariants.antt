use Rattle.node_codec.specs.Children.{children_viewed}
use Rattle.trie_update.proofs.KidCopies.{Copied}
use Rattle.trie_update.proofs.visiting.kids_of.Given as goal

abbrev pub invariant-loop-nibble : goal.invariant-loop-nibble
invariant-loop-nibble l = Copied l.nibble l.kids.value (children_viewed l.view)
