use Rattle.trie_update.specs.Balances.{AreBelow}
use Rattle.trie_update.proofs.balance.past_lower.Given as goal

abbrev pub invariant-loop-place : goal.invariant-loop-place
invariant-loop-place l = AreBelow l.digests l.place l.digest
