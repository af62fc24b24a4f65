use Rattle.std.proofs.Common.{◌≡◌, take}
use Rattle.trie_update.proofs.Tallies.{IsAhead}
use Rattle.trie_update.proofs.Balances.{losses_among}
use Rattle.trie_update.proofs.balance.lost_texts.Given as goal

abbrev pub invariant-loop-digest : goal.invariant-loop-digest
invariant-loop-digest l =
    (l.texts.items ≡ losses_among l.gains l.lost (take l.digest-index l.digest-items))
    × IsAhead l.gains l.gains_place l.digest-items l.digest-index
    × IsAhead l.lost l.lost_place l.digest-items l.digest-index
