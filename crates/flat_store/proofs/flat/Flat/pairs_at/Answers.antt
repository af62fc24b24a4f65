use Rattle.std.proofs.Common.{◌≡◌, length, Some, Err, sym, ap, ◌∙◌, arith}
use Rattle.std.specs.FinMap.{entries}
use Rattle.trie_model.specs.State.{State}
use Rattle.batch_model.specs.Changes.{after}
use Rattle.fork_model.specs.Trees.{passed}
use Rattle.flat_store.specs.Flats.{FlatState, laid_over, map_of}
use Rattle.flat_store.specs.Kept.{changes_of, head_of}
use Rattle.flat_store.proofs.Follows.{state-shown}
use Rattle.flat_store.proofs.Kept.{after-none, changes-none}
use Rattle.flat_store.proofs.flat.Flat.pairs_at.Goals as goal

pub note_way-requires-clause-changes : goal.note_way-requires-clause-changes
note_way-requires-clause-changes c = changes-none _ c.new-newest.ensures.empty

pub unreachable-requires : goal.unreachable-requires
unreachable-requires c =
    let whole : after (head_of c.self.inside.head.entries) (changes_of c.note_way.new.newest.entries) ≡ map_of c.args.self.now c.args.forks.now.tree c.args.id.now.0
    = c.in_ok-note_way.ensures.ok (head_of c.self.inside.head.entries) ∙ after-none _ _ c.new-newest.ensures.empty ∙ ap (λ (s : FlatState). laid_over s.deltas (passed c.args.forks.now.tree c.args.id.now.0) s.head) c.self.view_is in
    let same = ap (λ (s : State). length (entries s)) whole in
    let more = c.in-Err-Full.ensures.full (ap Err c.in-Err-Full.field-0-is) in
    let few = c.requires.few (sym c.is_live.ensures.live ∙ c.if-not-is_live.false) in
    omega (arith, same, more, few)

pub returns-in-Ok-clause-pairs : goal.returns-in-Ok-clause-pairs
returns-in-Ok-clause-pairs c =
    c.in-Ok.ensures.pairs ∙ c.in_ok-note_way.ensures.ok (head_of c.self.inside.head.entries) ∙ after-none _ _ c.new-newest.ensures.empty
    ∙ ap (λ (s : FlatState). laid_over s.deltas (passed c.args.forks.now.tree c.args.id.now.0) s.head) c.self.view_is

pub returns-in-Ok-clause-state : goal.returns-in-Ok-clause-state
returns-in-Ok-clause-state c = λ blocks well same is.
    let whole : c.in-Ok.pairs.state ≡ map_of c.args.self.now c.args.forks.now.tree c.args.id.now.0
    = c.in-Ok.ensures.pairs ∙ c.in_ok-note_way.ensures.ok (head_of c.self.inside.head.entries) ∙ after-none _ _ c.new-newest.ensures.empty
    ∙ ap (λ (s : FlatState). laid_over s.deltas (passed c.args.forks.now.tree c.args.id.now.0) s.head) c.self.view_is in
    state-shown blocks c.args.self.now c.args.forks.now.tree c.args.id.now.0 well same is (sym c.is_live.ensures.live ∙ c.if-not-is_live.false) ∙ ap Some (sym whole)
