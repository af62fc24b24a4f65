use Rattle.std.proofs.Common.{◌≡◌, List, length, sym, ap, ◌∙◌, arith}
use Rattle.base_core.specs.ChangeMaps.{ChangeMap}
use Rattle.flat_store.specs.Flats.{FlatState, keys_changed}
use Rattle.flat_store.proofs.Counts.{keys-kept, keys-listed, listed, listed-end, listed-more}
use Rattle.flat_store.proofs.flat.Flat.entries.Goals as goal

pub loop-changes-preserved : goal.loop-changes-preserved
loop-changes-preserved c =
    let more = listed-more _ _ c.in-Some.changes.now c.in-Some.ensures.steps in
    let count = ap (λ (ms : List ChangeMap). length ms) c.in-Some.ensures.steps in
    let keys = c.len-keys.ensures.len in
    let few = c.len-keys.ensures.held.few in
    let bound = c.len-keys.ensures.held.bounded in
    (omega (arith, c.loop-changes.invariant.0, more, keys), omega (arith, c.loop-changes.invariant.1, count, keys, few, bound))

pub returns-clause-entries : goal.returns-clause-entries
returns-clause-entries c =
    let told = c.loop-changes.invariant.0 in
    let none = listed-end _ c.in-None.ensures.steps.0 in
    let all : listed c.into_iter-changes-iterator.result ≡ keys_changed c.args.self.now.deltas
    = ap listed (c.into_iter-changes-iterator.ensures.into_iter_gives ∙ c.values-changes-items.ensures.rest) ∙ sym (keys-listed c.self.inside.deltas.entries c.values-changes-items.ensures.unique) ∙ ap (λ (s : FlatState). keys_changed s.deltas) c.self.view_is in
    omega (arith, told, none, all)

pub returns-clause-state : goal.returns-clause-state
returns-clause-state c = λ blocks well is.
    let told = c.loop-changes.invariant.0 in
    let none = listed-end _ c.in-None.ensures.steps.0 in
    let all : listed c.into_iter-changes-iterator.result ≡ keys_changed c.args.self.now.deltas
    = ap listed (c.into_iter-changes-iterator.ensures.into_iter_gives ∙ c.values-changes-items.ensures.rest) ∙ sym (keys-listed c.self.inside.deltas.entries c.values-changes-items.ensures.unique) ∙ ap (λ (s : FlatState). keys_changed s.deltas) c.self.view_is in
    let kept = keys-kept blocks c.args.self.now well is in
    omega (arith, told, none, all, kept)
