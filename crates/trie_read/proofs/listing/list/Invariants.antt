use Rattle.std.proofs.Common.{length}
use Rattle.byte_model.specs.Nibbles.{nibbles}
use Rattle.visit_model.specs.Visits.{listing_visits}
use Rattle.trie_read.specs.Walks.{steps_of}
use Rattle.trie_read.proofs.ListingProgress.{IsListing}
use Rattle.trie_read.proofs.listing.list.Given as goal

abbrev pub invariant-loop-alloc : goal.invariant-loop-alloc
invariant-loop-alloc g l =
    let table = g.T.Texts.store.texts l.fn.store in
    IsListing g.T.Texts.store l.fn.store l.store table (nibbles l.from) (listing_visits table l.root.0 l.from l.most) l.most l.walk l.pairs

abbrev pub decreases-loop-alloc : goal.decreases-loop-alloc
decreases-loop-alloc g l = length (steps_of (g.T.Texts.store.texts l.fn.store) (nibbles l.from) l.walk.path.items l.walk.pending.items)
