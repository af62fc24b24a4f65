use Rattle.std.proofs.Common.{rules}
use Rattle.std.proofs.lemmas.Map.Made.{filter_same_pairs}
use Rattle.flat_store.specs.Kept.{deltas_of}
use Rattle.flat_store.proofs.Listing.{has_held, swept-stay}
use Rattle.flat_store.proofs.lists.sweep.Goals as goal

pub returns : goal.returns
returns c =
    swept-stay (deltas_of c.args.deltas.now.entries) _ _ (filter_same_pairs _ (λ e. has_held (deltas_of c.args.deltas.now.entries) e.1) _ (λ k v b w f' t. search rules) _ _ c.retain.ensures.filtered)
