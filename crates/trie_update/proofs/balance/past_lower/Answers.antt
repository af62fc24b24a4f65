use Rattle.std.proofs.Common.{is_lt, ◌≡◌, false, [], get_or, subst}
use Rattle.std.proofs.lemmas.List.{get_or_default}
use Rattle.trie_update.specs.Balances.{by_bytes}
use Rattle.trie_update.proofs.Tallies.{parted-below, point-found, not_below-from_test}
use Rattle.trie_update.proofs.balance.past_lower.Goals as goal

pub returns-then-ge-clause-parted : goal.returns-then-ge-clause-parted
returns-then-ge-clause-parted c =
    point-found (λ d. is_lt (by_bytes d c.args.digest.now)) c.args.digests.now c.loop-place.place (parted-below c.args.digests.now c.args.digest.now c.requires.order) c.loop-place.invariant
    (λ within d. subst (λ x. is_lt (by_bytes x c.args.digest.now) ≡ false) (get_or_default c.args.digests.now c.loop-place.place (record { 0 = [] }) d within) (not_below-from_test (get_or c.args.digests.now c.loop-place.place (record { 0 = [] })) c.args.digest.now c.if-ge.ensures))
