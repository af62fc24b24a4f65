use Rattle.std.specs.List.{AllAdjacentBelow}
use Rattle.trie_update.proofs.Clashes.{AgreesWith}
use Rattle.trie_update.proofs.balance.agree.Given as goal

abbrev pub invariant-loop-i : goal.invariant-loop-i
invariant-loop-i l = AllAdjacentBelow AgreesWith l.gained l.i
