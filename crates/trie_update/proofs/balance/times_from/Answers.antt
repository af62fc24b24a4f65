use Rattle.std.proofs.Common.{arith}
use Rattle.trie_update.proofs.Tallies.{times_in-places}
use Rattle.trie_update.proofs.balance.times_from.Goals as goal

pub overflow_sub-result : goal.overflow_sub-result
overflow_sub-result c =
    let first = c.past_lower-first.ensures in
    let behind = c.past_equal-behind.ensures in
    omega (arith, times_in-places c.args.digests.now c.args.digest.now _ _ first.within behind.within first.parted behind.parted)

pub returns-clause-times : goal.returns-clause-times
returns-clause-times c =
    let first = c.past_lower-first.ensures in
    let behind = c.past_equal-behind.ensures in
    omega (arith, times_in-places c.args.digests.now c.args.digest.now _ _ first.within behind.within first.parted behind.parted)
