use Rattle.std.proofs.Common.{ℕ, ◌+◌, ◌≤◌, sym, ap, subst, ◌∙◌}
use Rattle.std.specs.HashMap.{spare}
use Rattle.batch_model.specs.Changes.{after}
use Rattle.flat_store.specs.Kept.{head_of}
use Rattle.flat_store.proofs.Tables.{deltas-taken}
use Rattle.flat_store.proofs.Passing.{after-empty, delta-found, delta-missing, keys-found}
use Rattle.flat_store.proofs.moves.lay_block.Goals as goal

pub lay_over-requires-clause-room : goal.lay_over-requires-clause-room
lay_over-requires-clause-room c = subst (λ (n : ℕ). n ≤ spare c.args.head.now) (keys-found _ c.args.id.now.0 _ (sym c.in-Some.ensures.value)) c.requires.room

pub returns-in-Some-clause-head : goal.returns-in-Some-clause-head
returns-in-Some-clause-head c = c.lay_over.ensures.head ∙ ap (after (head_of c.args.head.now.entries)) (sym (delta-found _ c.args.id.now.0 _ (sym c.in-Some.ensures.value)))

pub returns-in-Some-clause-deltas : goal.returns-in-Some-clause-deltas
returns-in-Some-clause-deltas c = deltas-taken _ _ c.args.id.now.0 (λ q. c.remove.ensures.updates.0 (record { 0 = q }))

pub returns-in-Some-clause-places : goal.returns-in-Some-clause-places
returns-in-Some-clause-places c = subst (λ (n : ℕ). spare c.args.head.now ≤ spare c.lay_over.new.head + n) (sym (keys-found _ c.args.id.now.0 _ (sym c.in-Some.ensures.value))) c.lay_over.ensures.room

pub returns-in_default-clause-head : goal.returns-in_default-clause-head
returns-in_default-clause-head c = sym (ap (after (head_of c.args.head.now.entries)) (delta-missing _ c.args.id.now.0 (sym c.in_default.ensures.value)) ∙ after-empty _)

pub returns-in_default-clause-deltas : goal.returns-in_default-clause-deltas
returns-in_default-clause-deltas c = deltas-taken _ _ c.args.id.now.0 (λ q. c.remove.ensures.updates.0 (record { 0 = q }))
