use Rattle.flat_store.specs.Kept.{deltas_of}
use Rattle.flat_store.proofs.Listing.{listing-start, listing-step}
use Rattle.flat_store.proofs.lists.list_rows.Goals as goal

pub loop-row-init : goal.loop-row-init
loop-row-init c = (λ id key live on. on, listing-start (deltas_of c.args.deltas.now.entries) c.args.id.now.0 c.args.lists.now.entries c.args.rows.now)

pub loop-row-preserved : goal.loop-row-preserved
loop-row-preserved c = (
  λ id key live on. c.in_ok-list_key.ensures.stay id key live (c.loop-row.invariant.0 id key live on),
  listing-step (deltas_of c.args.deltas.now.entries) c.args.id.now.0 _ _ c.args.rows.now c.loop-row.row-index _ c.loop-row-test.true c.requires c.loop-row.invariant.1 c.in_ok-list_key.ensures.stay c.in_ok-list_key.ensures.ok,
)
