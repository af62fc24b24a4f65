use Rattle.std.proofs.Common.{◌≡◌, List, subst, sym, ap, ◌∙◌}
use Rattle.visit_model.specs.Seen.{seen}
use Rattle.batch_model.specs.Changes.{Change, change_rows}
use Rattle.change_model.specs.Visits.{where_touched, visits_at}
use Rattle.update_model.specs.Updates.{updated}
use Rattle.text_store.specs.Leaves.{Leaves}
use Rattle.trie_update.specs.ChangesAt.{AreChangesAt, changes_at}
use Rattle.trie_update.specs.Endings.{update_ended}
use Rattle.trie_update.specs.Updates.{AnswersUpdate, ComesTo}
use Rattle.trie_update.proofs.Batches.{batch-at, batch-rows, batch-changes, some-length, no-changes}
use Rattle.trie_update.proofs.StateAnswers.{answer-meets}
use Rattle.trie_update.proofs.batch.update.Goals as goal

pub update_sorted-requires-clause-changes : goal.update_sorted-requires-clause-changes
update_sorted-requires-clause-changes g c = subst (AreChangesAt 0) (sym c.deref.ensures.value) (batch-at c.args.changes.now c.in-Ok.rows.items c.in-Ok.ensures.held c.in-Ok.ensures.rows)

pub returns-in-Ok-clause-left : goal.returns-in-Ok-clause-left
returns-in-Ok-clause-left g c =
    let whole : changes_at 0 c.deref.result.now ≡ change_rows c.args.changes.now.changes = ap (changes_at 0) c.deref.ensures.value ∙ batch-rows c.args.changes.now c.in-Ok.rows.items c.in-Ok.ensures.held c.in-Ok.ensures.rows in
    subst (λ (cs : List Change). Leaves g.T.Texts.store c.args.store.now c.update_sorted.new.store (where_touched cs (visits_at (seen (g.T.Texts.store.texts c.args.store.now) c.args.root.now.0) cs)).digests (update_ended c.update_sorted.result)) whole c.update_sorted.ensures.left

pub returns-in-Ok-clause-answer : goal.returns-in-Ok-clause-answer
returns-in-Ok-clause-answer g c =
    let whole : changes_at 0 c.deref.result.now ≡ change_rows c.args.changes.now.changes = ap (changes_at 0) c.deref.ensures.value ∙ batch-rows c.args.changes.now c.in-Ok.rows.items c.in-Ok.ensures.held c.in-Ok.ensures.rows in
    subst (λ (cs : List Change). AnswersUpdate (where_touched cs (visits_at (seen (g.T.Texts.store.texts c.args.store.now) c.args.root.now.0) cs)) c.update_sorted.result) whole c.update_sorted.ensures.answer

pub returns-in-Ok-clause-state : goal.returns-in-Ok-clause-state
returns-in-Ok-clause-state g c = λ state is holds is_root.
    let held = c.in-Ok.ensures.held in
    let rows = c.in-Ok.ensures.rows in
    let whole : changes_at 0 c.deref.result.now ≡ change_rows c.args.changes.now.changes = ap (changes_at 0) c.deref.ensures.value ∙ batch-rows c.args.changes.now c.in-Ok.rows.items held rows in
    answer-meets (g.T.Texts.store.texts c.args.store.now) state c.args.changes.now.changes c.args.root.now is (batch-changes c.args.changes.now c.in-Ok.rows.items held rows) holds is_root c.update_sorted.result
    (subst (λ (cs : List Change). AnswersUpdate (where_touched cs (visits_at (seen (g.T.Texts.store.texts c.args.store.now) c.args.root.now.0) cs)) c.update_sorted.result) whole c.update_sorted.ensures.answer)
    (λ some. subst (λ (cs : List Change). ComesTo (updated (seen (g.T.Texts.store.texts c.args.store.now) c.args.root.now.0) cs) c.update_sorted.result) whole (c.update_sorted.ensures.outcome (some-length c.deref.result.now whole some)))
    (λ none. c.update_sorted.ensures.none (no-changes c.deref.result.now whole none))
