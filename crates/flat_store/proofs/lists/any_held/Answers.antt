use Rattle.std.proofs.Common.{is_some, sym, ◌∙◌}
use Rattle.std.specs.FinMap.{get}
use Rattle.flat_store.specs.Kept.{deltas_of}
use Rattle.flat_store.proofs.Listing.{any-here, any-step, held-deltas}
use Rattle.flat_store.proofs.lists.any_held.Goals as goal

pub returns-then-contains_key : goal.returns-then-contains_key
returns-then-contains_key c =
    any-here (λ id. is_some (get (deltas_of c.args.deltas.now.entries) id)) c.args.ids.now c.loop-id.id-index _ c.loop-id-test.true (held-deltas c.args.deltas.now.entries _ ∙ sym c.contains_key.ensures ∙ c.if-contains_key.true) c.loop-id.invariant

pub loop-id-preserved : goal.loop-id-preserved
loop-id-preserved c =
    any-step (λ id. is_some (get (deltas_of c.args.deltas.now.entries) id)) c.args.ids.now c.loop-id.id-index _ c.loop-id-test.true (held-deltas c.args.deltas.now.entries _ ∙ sym c.contains_key.ensures ∙ c.if-contains_key.false) c.loop-id.invariant
