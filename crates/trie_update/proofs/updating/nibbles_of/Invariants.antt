use Rattle.std.proofs.Common.{◌≡◌, take}
use Rattle.trie_update.proofs.updating.nibbles_of.Given as goal

abbrev pub invariant-loop-i : goal.invariant-loop-i
invariant-loop-i l = l.nibbles.items ≡ take l.i l.path
