use Rattle.std.proofs.Common.{◌<◌, ◌≡◌, ℕ, length, ap, subst, ◌∙◌}
use Rattle.std.specs.FinMap.{entries, get}
use Rattle.trie_model.specs.State.{State}
use Rattle.batch_model.specs.Changes.{after}
use Rattle.flat_store.specs.Kept.{changes_of, head_of, unchanged}
use Rattle.flat_store.proofs.Puts.{passed_on, unchanged-after, unchanged-fewer, unchanged-new}
use Rattle.flat_store.proofs.maps.pairs_of.Goals as goal

pub returns-in_err-put_unchanged-clause-full : goal.returns-in_err-put_unchanged-clause-full
returns-in_err-put_unchanged-clause-full c = λ full.
    let more = c.in_err-put_unchanged.ensures.full (passed_on c.from_residual.result c.in_err-put_unchanged.field-0.0 _ c.from_residual.ensures.1 full) in
    unchanged-fewer c.args.head.now.entries c.args.newest.entries c.args.most (subst (λ (m : ℕ). m < length (entries (unchanged c.args.head.now.entries c.args.newest.entries))) c.new-pairs.ensures.most more)

pub put_changed-requires-clause-new : goal.put_changed-requires-clause-new
put_changed-requires-clause-new c = λ key some. ap (λ (s : State). get s key) c.in_ok-put_unchanged.ensures.ok ∙ unchanged-new c.args.head.now.entries c.args.newest.entries key some

pub returns-in_err-put_changed-clause-full : goal.returns-in_err-put_changed-clause-full
returns-in_err-put_changed-clause-full c = λ full.
    let more = c.in_err-put_changed.ensures.full (passed_on c.from_residual-in_err-put_changed.result c.in_err-put_changed.field-0.0 _ c.from_residual-in_err-put_changed.ensures.1 full) in
    let whole : after c.put_unchanged.new.pairs.state (changes_of c.args.newest.entries) ≡ after (head_of c.args.head.now.entries) (changes_of c.args.newest.entries)
    = ap (λ (s : State). after s (changes_of c.args.newest.entries)) c.in_ok-put_unchanged.ensures.ok ∙ unchanged-after c.args.head.now.entries c.args.newest.entries in
    subst (λ (m : ℕ). m < length (entries (after (head_of c.args.head.now.entries) (changes_of c.args.newest.entries)))) (c.in_ok-put_unchanged.ensures.most ∙ c.new-pairs.ensures.most)
    (subst (λ (s : State). c.put_unchanged.new.pairs.most < length (entries s)) whole more)

pub returns-clause-pairs : goal.returns-clause-pairs
returns-clause-pairs c = c.in_ok-put_changed.ensures.ok ∙ ap (λ (s : State). after s (changes_of c.args.newest.entries)) c.in_ok-put_unchanged.ensures.ok ∙ unchanged-after c.args.head.now.entries c.args.newest.entries
