use Rattle.trie_update.specs.Balances.{AreUpTo}
use Rattle.trie_update.proofs.balance.past_equal.Given as goal

abbrev pub invariant-loop-place : goal.invariant-loop-place
invariant-loop-place l = AreUpTo l.digests l.place l.digest
