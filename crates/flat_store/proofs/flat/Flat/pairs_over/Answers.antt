use Rattle.std.proofs.Common.{◌≡◌, ◌<◌, length, Some, sym, ap, subst, ◌∙◌}
use Rattle.std.specs.Option.{option_map, IsSomeAnd}
use Rattle.std.specs.FinMap.{entries}
use Rattle.trie_model.specs.State.{State}
use Rattle.batch_model.specs.Changes.{after}
use Rattle.fork_model.specs.Trees.{passed}
use Rattle.flat_store.specs.Flats.{FlatState, laid_over, map_of}
use Rattle.flat_store.specs.Kept.{changes_of, deltas_of, head_of}
use Rattle.flat_store.proofs.Follows.{state-shown}
use Rattle.flat_store.proofs.Kept.{after-none, changes-none}
use Rattle.flat_store.proofs.Noting.{if_ok}
use Rattle.flat_store.proofs.flat.Flat.pairs_over.Goals as goal

pub note-requires : goal.note-requires
note-requires c = record { changes = changes-none _ c.new-newest.ensures.empty }

pub returns-clause-full : goal.returns-clause-full
returns-clause-full c = λ full.
    let whole : after (head_of c.self.inside.head.entries) (changes_of c.note_way.new.newest.entries) ≡ after (map_of c.args.self.now c.args.forks.now.tree c.args.prev.now.0) c.args.changes.now.changes
    = c.in_ok-note_way.ensures.ok (head_of c.self.inside.head.entries) ∙ c.in_ok-note.ensures.ok (laid_over (deltas_of c.self.inside.deltas.entries) (passed c.args.forks.now.tree c.args.prev.now.0) (head_of c.self.inside.head.entries))
    ∙ after-none _ _ c.new-newest.ensures.empty ∙ ap (λ (s : FlatState). after (laid_over s.deltas (passed c.args.forks.now.tree c.args.prev.now.0) s.head) c.args.changes.now.changes) c.self.view_is in
    subst (λ (s : State). c.args.most < length (entries s)) whole (c.pairs_of.ensures.full full)

pub returns-clause-pairs : goal.returns-clause-pairs
returns-clause-pairs c =
    let whole : after (head_of c.self.inside.head.entries) (changes_of c.note_way.new.newest.entries) ≡ after (map_of c.args.self.now c.args.forks.now.tree c.args.prev.now.0) c.args.changes.now.changes
    = c.in_ok-note_way.ensures.ok (head_of c.self.inside.head.entries) ∙ c.in_ok-note.ensures.ok (laid_over (deltas_of c.self.inside.deltas.entries) (passed c.args.forks.now.tree c.args.prev.now.0) (head_of c.self.inside.head.entries))
    ∙ after-none _ _ c.new-newest.ensures.empty ∙ ap (λ (s : FlatState). after (laid_over s.deltas (passed c.args.forks.now.tree c.args.prev.now.0) s.head) c.args.changes.now.changes) c.self.view_is in
    if_ok c.pairs_of.result (λ pairs is. is ∙ whole) c.pairs_of.ensures.pairs

pub returns-clause-state : goal.returns-clause-state
returns-clause-state c = λ blocks well same is.
    let whole : after (head_of c.self.inside.head.entries) (changes_of c.note_way.new.newest.entries) ≡ after (map_of c.args.self.now c.args.forks.now.tree c.args.prev.now.0) c.args.changes.now.changes
    = c.in_ok-note_way.ensures.ok (head_of c.self.inside.head.entries) ∙ c.in_ok-note.ensures.ok (laid_over (deltas_of c.self.inside.deltas.entries) (passed c.args.forks.now.tree c.args.prev.now.0) (head_of c.self.inside.head.entries))
    ∙ after-none _ _ c.new-newest.ensures.empty ∙ ap (λ (s : FlatState). after (laid_over s.deltas (passed c.args.forks.now.tree c.args.prev.now.0) s.head) c.args.changes.now.changes) c.self.view_is in
    let shown = state-shown blocks c.args.self.now c.args.forks.now.tree c.args.prev.now.0 well same is (sym c.is_live.ensures.live ∙ c.if-not-is_live.false) in
    if_ok c.pairs_of.result (λ pairs held. ap (option_map (λ (s : State). after s c.args.changes.now.changes)) shown ∙ ap Some (sym (held ∙ whole))) c.pairs_of.ensures.pairs

pub returns-clause-full_state : goal.returns-clause-full_state
returns-clause-full_state c = λ blocks well same is full.
    let whole : after (head_of c.self.inside.head.entries) (changes_of c.note_way.new.newest.entries) ≡ after (map_of c.args.self.now c.args.forks.now.tree c.args.prev.now.0) c.args.changes.now.changes
    = c.in_ok-note_way.ensures.ok (head_of c.self.inside.head.entries) ∙ c.in_ok-note.ensures.ok (laid_over (deltas_of c.self.inside.deltas.entries) (passed c.args.forks.now.tree c.args.prev.now.0) (head_of c.self.inside.head.entries))
    ∙ after-none _ _ c.new-newest.ensures.empty ∙ ap (λ (s : FlatState). after (laid_over s.deltas (passed c.args.forks.now.tree c.args.prev.now.0) s.head) c.args.changes.now.changes) c.self.view_is in
    let shown = state-shown blocks c.args.self.now c.args.forks.now.tree c.args.prev.now.0 well same is (sym c.is_live.ensures.live ∙ c.if-not-is_live.false) in
    subst (λ o. IsSomeAnd o (λ (s : State). c.args.most < length (entries s))) (sym (ap (option_map (λ (s : State). after s c.args.changes.now.changes)) shown))
    (subst (λ (s : State). c.args.most < length (entries s)) whole (c.pairs_of.ensures.full full))
