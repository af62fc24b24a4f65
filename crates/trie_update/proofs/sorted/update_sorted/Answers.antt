use Rattle.std.proofs.Common.{◌≡◌, ℕ, ◌≤◌, List, length, sym, subst, ◌∙◌}
use Rattle.std.proofs.lemmas.Bool.{eqb-true}
use Rattle.visit_model.specs.Seen.{seen}
use Rattle.change_model.specs.Visits.{visits_at}
use Rattle.update_model.specs.Updates.{Outcome, updated}
use Rattle.base_core.specs.Faults.{done}
use Rattle.text_store.specs.Leaves.{Leaves}
use Rattle.text_store.proofs.Leaves.{Leaves-none}
use Rattle.trie_update.specs.ChangesAt.{changes_at}
use Rattle.trie_update.specs.Sorted.{CanFinish}
use Rattle.trie_update.proofs.Batches.{no-touch}
use Rattle.trie_update.proofs.Finishing.{answers-rows, can_finish, some-rows}
use Rattle.trie_update.proofs.sorted.update_sorted.Goals as goal

pub returns-then-is_empty-clause-left : goal.returns-then-is_empty-clause-left
returns-then-is_empty-clause-left g c =
    let none : length c.args.changes.now ≡ 0 = eqb-true (length c.args.changes.now) 0 (sym c.is_empty.ensures ∙ c.if-is_empty.true) in
    subst (λ (digests : List (List ℕ)). Leaves g.T.Texts.store c.args.store.now c.args.store.now digests done) (sym (no-touch c.args.changes.now _ none)) (Leaves-none g.T.Texts.store c.args.store.now (g.met.T.Texts.alike_itself c.args.store.now))

pub returns-clause-answer : goal.returns-clause-answer
returns-clause-answer g c =
    let new = c.new-ledger.ensures in
    let outcome : Outcome = updated (seen (g.T.Texts.store.texts c.args.store.now) c.args.root.now.0) (changes_at 0 c.args.changes.now) in
    let can : CanFinish outcome c.at_root.new.ledger c.in_ok-placed.placed = can_finish outcome c.new-ledger.result c.at_root.new.ledger c.in_ok-placed.placed new.gained new.lost new.fresh new.gone c.in_ok-placed.ensures.rooted in
    let some : 1 ≤ length c.args.changes.now = some-rows (length c.args.changes.now) (sym c.if-is_empty.ensures) in
    answers-rows c.args.changes.now (visits_at (seen (g.T.Texts.store.texts c.args.store.now) c.args.root.now.0) (changes_at 0 c.args.changes.now)) outcome c.finish.result some c.in_ok-placed.ensures.carries.answer c.finish.ensures.only (c.finish.ensures.outcome outcome can)

pub returns-clause-outcome : goal.returns-clause-outcome
returns-clause-outcome g c = λ some.
    let new = c.new-ledger.ensures in
    let outcome : Outcome = updated (seen (g.T.Texts.store.texts c.args.store.now) c.args.root.now.0) (changes_at 0 c.args.changes.now) in
    c.finish.ensures.outcome outcome (can_finish outcome c.new-ledger.result c.at_root.new.ledger c.in_ok-placed.placed new.gained new.lost new.fresh new.gone c.in_ok-placed.ensures.rooted)
