use Rattle.std.proofs.Common.{ap, ◌∙◌}
use Rattle.std.specs.FinMap.{insert}
use Rattle.std.specs.HashMap.{spare}
use Rattle.flat_store.specs.Flats.{FlatState}
use Rattle.flat_store.proofs.Follows.{block-added}
use Rattle.flat_store.proofs.Kept.{kept-added, room-one, room-there}
use Rattle.flat_store.proofs.Tables.{deltas-put}
use Rattle.flat_store.proofs.flat.Flat.add.Goals as goal

pub invariant_of-self : goal.invariant_of-self
invariant_of-self c =
    let there = room-there c.self.inside.newest (spare c.self.inside.deltas) c.args.self.now.spare (ap (λ (s : FlatState). s.spare) c.self.view_is) c.requires.room in
    kept-added c.self.inside.newest _ _ _ _ c.args.self.now.deltas c.args.id c.args.changes.changes c.self.invariant there.0 (ap (λ (s : FlatState). s.deltas) c.self.view_is) c.insert.ensures.unique
    (deltas-put _ _ c.args.id.0 c.args.changes (λ q. c.in-Ok.ensures.updates.0 (record { 0 = q })) ∙ ap (λ (s : FlatState). insert s.deltas c.args.id.0 c.args.changes.changes) c.self.view_is) c.requires.new c.requires.few

pub returns-clause-room : goal.returns-clause-room
returns-clause-room c = room-one c.self.inside.newest (spare c.self.inside.deltas) c.args.self.now.spare (ap (λ (s : FlatState). s.spare) c.self.view_is)

pub returns-clause-deltas : goal.returns-clause-deltas
returns-clause-deltas c = deltas-put _ _ c.args.id.0 c.args.changes (λ q. c.in-Ok.ensures.updates.0 (record { 0 = q })) ∙ ap (λ (s : FlatState). insert s.deltas c.args.id.0 c.args.changes.changes) c.self.view_is

pub returns-clause-state : goal.returns-clause-state
returns-clause-state c = λ most blocks header named fine is.
    block-added most blocks header c.args.changes.changes c.args.self.now _ c.args.id.0 named fine is (ap (λ (s : FlatState). s.head) c.self.view_is)
    (deltas-put _ _ c.args.id.0 c.args.changes (λ q. c.in-Ok.ensures.updates.0 (record { 0 = q })) ∙ ap (λ (s : FlatState). insert s.deltas c.args.id.0 c.args.changes.changes) c.self.view_is)
