use Rattle.std.proofs.Common.{◌≡◌, take}
use Rattle.trie_shape.proofs.rows.nibbles_of.Given as goal

abbrev pub invariant-loop-i : goal.invariant-loop-i
invariant-loop-i l = l.writer ≡ take l.i l.path
