use Rattle.std.proofs.Common.{◌≡◌, map, length}
use Rattle.std.specs.List.{dedup}
use Rattle.trie_update.specs.Balances.{gained_digests, made_text}
use Rattle.trie_update.proofs.Tallies.{IsAhead}
use Rattle.trie_update.proofs.Balances.{same_digest}
use Rattle.trie_update.proofs.balance.made_texts.Given as goal

abbrev pub invariant-loop-digest : goal.invariant-loop-digest
invariant-loop-digest l =
    (goal.iterator-loop-digest).can_next l.digest-iterator × (goal.iterator-loop-digest).is_finite l.digest-iterator
    × (l.texts.items ≡ map (made_text l.fn.gained.items l.lost) l.yielded)
    × IsAhead l.gains l.gains_place (gained_digests (dedup same_digest l.fn.gained.items)) (length l.yielded)
    × IsAhead l.lost l.lost_place (gained_digests (dedup same_digest l.fn.gained.items)) (length l.yielded)
