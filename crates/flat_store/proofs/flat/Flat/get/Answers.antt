use Rattle.std.proofs.Common.{◌≡◌, Some, None, sym, ap, ◌∙◌}
use Rattle.std.specs.Option.{option_copied}
use Rattle.std.specs.FinMap.{get}
use Rattle.trie_model.specs.State.{State}
use Rattle.flat_store.specs.Flats.{FlatState}
use Rattle.flat_store.proofs.Follows.{state-has}
use Rattle.flat_store.proofs.Lookups.{way-end, way-found, way-step}
use Rattle.flat_store.proofs.Tables.{get-map}
use Rattle.flat_store.proofs.Ways.{shorter}
use Rattle.flat_store.proofs.flat.Flat.get.Goals as goal

pub loop-prev-smaller : goal.loop-prev-smaller
loop-prev-smaller c = shorter c.args.forks.now.tree c.loop-prev.at.0 c.in-Some.prev.0 c.is_live.ensures.tree (sym c.in-Some.ensures)

pub loop-prev-preserved : goal.loop-prev-preserved
loop-prev-preserved c = way-step c.args.forks.now.tree c.args.self.now c.args.key.now c.args.id.now.0 c.loop-prev.at.0 c.is_live.ensures.tree c.loop-prev.invariant c.in-Some.prev.0 (sym c.in-Some.ensures) (sym c.in_default-change.ensures)

-- ---- a block on the way changes the key

pub returns-in-Some-change-clause-value : goal.returns-in-Some-change-clause-value
returns-in-Some-change-clause-value c =
    way-found c.args.forks.now.tree c.args.self.now c.args.key.now c.args.id.now.0 c.loop-prev.at.0 c.is_live.ensures.tree c.loop-prev.invariant c.in-Some.prev.0 (option_copied c.in-Some-change.value) (sym c.in-Some.ensures) (sym c.in-Some-change.ensures)

pub returns-in-Some-change-clause-state : goal.returns-in-Some-change-clause-state
returns-in-Some-change-clause-state c = λ blocks well same is.
    let value = way-found c.args.forks.now.tree c.args.self.now c.args.key.now c.args.id.now.0 c.loop-prev.at.0 c.is_live.ensures.tree c.loop-prev.invariant c.in-Some.prev.0 (option_copied c.in-Some-change.value) (sym c.in-Some.ensures) (sym c.in-Some-change.ensures) in
    state-has blocks c.args.self.now c.args.forks.now.tree c.args.id.now.0 (λ (state : State). option_copied c.in-Some-change.value ≡ get state c.args.key.now) well same is c.loop-prev.invariant.first value

-- ---- none does

pub returns-in-Some-get-clause-value : goal.returns-in-Some-get-clause-value
returns-in-Some-get-clause-value c =
    ap Some c.as_slice.ensures ∙ c.in-Some-get.ensures.value ∙ sym (get-map _ c.args.key.now) ∙ ap (λ (s : FlatState). get s.head c.args.key.now) c.self.view_is
    ∙ way-end c.args.forks.now.tree c.args.self.now c.args.key.now c.args.id.now.0 c.loop-prev.at.0 c.is_live.ensures.tree c.loop-prev.invariant (sym c.in_default.ensures)

pub returns-in-Some-get-clause-state : goal.returns-in-Some-get-clause-state
returns-in-Some-get-clause-state c = λ blocks well same is.
    let value = ap Some c.as_slice.ensures ∙ c.in-Some-get.ensures.value ∙ sym (get-map _ c.args.key.now) ∙ ap (λ (s : FlatState). get s.head c.args.key.now) c.self.view_is
    ∙ way-end c.args.forks.now.tree c.args.self.now c.args.key.now c.args.id.now.0 c.loop-prev.at.0 c.is_live.ensures.tree c.loop-prev.invariant (sym c.in_default.ensures) in
    state-has blocks c.args.self.now c.args.forks.now.tree c.args.id.now.0 (λ (state : State). Some c.as_slice.result.now ≡ get state c.args.key.now) well same is c.loop-prev.invariant.first value

pub returns-in-None-clause-value : goal.returns-in-None-clause-value
returns-in-None-clause-value c =
    c.in-None.ensures.value ∙ sym (get-map _ c.args.key.now) ∙ ap (λ (s : FlatState). get s.head c.args.key.now) c.self.view_is
    ∙ way-end c.args.forks.now.tree c.args.self.now c.args.key.now c.args.id.now.0 c.loop-prev.at.0 c.is_live.ensures.tree c.loop-prev.invariant (sym c.in_default.ensures)

pub returns-in-None-clause-state : goal.returns-in-None-clause-state
returns-in-None-clause-state c = λ blocks well same is.
    let value = c.in-None.ensures.value ∙ sym (get-map _ c.args.key.now) ∙ ap (λ (s : FlatState). get s.head c.args.key.now) c.self.view_is
    ∙ way-end c.args.forks.now.tree c.args.self.now c.args.key.now c.args.id.now.0 c.loop-prev.at.0 c.is_live.ensures.tree c.loop-prev.invariant (sym c.in_default.ensures) in
    state-has blocks c.args.self.now c.args.forks.now.tree c.args.id.now.0 (λ (state : State). None ≡ get state c.args.key.now) well same is c.loop-prev.invariant.first value
