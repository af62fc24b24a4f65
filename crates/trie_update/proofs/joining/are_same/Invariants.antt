use Rattle.std.proofs.Common.{◌≡◌, ◌<◌, ℕ}
use Rattle.node_codec.specs.Meanings.{children_in}
use Rattle.trie_update.proofs.joining.are_same.Given as goal

abbrev pub invariant-loop-nibble : goal.invariant-loop-nibble
invariant-loop-nibble l = (x : ℕ) → x < l.nibble → children_in l.kids x ≡ children_in l.others x
