use Rattle.std.proofs.Common.{length, sym, ap, subst, ◌∙◌, arith}
use Rattle.std.specs.List.{AllByRecursion, IsDistinct}
use Rattle.std.specs.Str.{bytes_eq}
use Rattle.std.specs.FinMap.{entries, get}
use Rattle.trie_model.specs.State.{State, IsPair}
use Rattle.flat_store.specs.Flats.{FlatState, HasSameBlocks, laid_over, left_of}
use Rattle.flat_store.specs.Kept.{deltas_of}
use Rattle.flat_store.proofs.Moved.{flat-moved}
use Rattle.flat_store.proofs.Planned.{passed-apart, passed-few}
use Rattle.flat_store.proofs.Tables.{map-alike}
use Rattle.flat_store.proofs.flat.Flat.move_head.Goals as goal

pub keys_in-requires : goal.keys_in-requires
keys_in-requires c =
    let few = passed-few c.requires.0 c.requires.1 c.requires.2 c.requires.3.live c.self.inside.deltas.entries (subst (λ (s : FlatState). HasSameBlocks c.requires.0 s.deltas) (sym c.self.view_is) c.requires.4) in
    let same = ap length c.requires.3.passed in
    let most = c.self.invariant.few in
    omega (arith, few, same, most)

pub lay_passed-requires-clause-apart : goal.lay_passed-requires-clause-apart
lay_passed-requires-clause-apart c = subst (IsDistinct bytes_eq) (sym c.requires.3.passed) (passed-apart c.requires.0 c.requires.1 c.requires.2 c.requires.3.live)

pub lay_passed-requires-clause-pairs : goal.lay_passed-requires-clause-pairs
lay_passed-requires-clause-pairs c = subst (λ (s : State). AllByRecursion IsPair (entries s)) (sym (map-alike _ _ c.reserve.ensures.entries.2)) c.self.invariant.pairs

pub returns-clause-head : goal.returns-clause-head
returns-clause-head c =
    c.lay_passed.ensures.head ∙ ap (laid_over (deltas_of c.self.inside.deltas.entries) c.args.m.now.passed) (map-alike _ _ c.reserve.ensures.entries.2) ∙ ap (λ (s : FlatState). laid_over s.deltas c.args.m.now.passed s.head) c.self.view_is

pub returns-clause-state : goal.returns-clause-state
returns-clause-state c = λ blocks id well plan is.
    flat-moved blocks c.args.self.now _ id c.args.m.now well plan is
    (c.lay_passed.ensures.head ∙ ap (laid_over (deltas_of c.self.inside.deltas.entries) c.args.m.now.passed) (map-alike _ _ c.reserve.ensures.entries.2) ∙ ap (λ (s : FlatState). laid_over s.deltas c.args.m.now.passed s.head) c.self.view_is)
    (λ q. c.forget.ensures.deltas q ∙ ap (left_of c.args.m.now.dropped q) (c.lay_passed.ensures.deltas q) ∙ ap (λ (s : FlatState). left_of c.args.m.now.dropped q (left_of c.args.m.now.passed q (get s.deltas q))) c.self.view_is)
