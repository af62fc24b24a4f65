use Rattle.std.proofs.Common.{ap, ◌∙◌}
use Rattle.flat_store.specs.Kept.{changes_of}
use Rattle.flat_store.proofs.Noting.{joined-after, joined-changes, joined-rows, on_ok, shown}
use Rattle.flat_store.proofs.maps.note.Goals as goal

pub returns-clause-ok : goal.returns-clause-ok
returns-clause-ok c =
    on_ok c.note_rows.result (λ noted. joined-after (changes_of c.note_rows.new.newest.entries) (changes_of c.args.newest.now.entries) c.args.changes.now.changes (joined-rows _ _ _ _ (ap shown c.as_slice.ensures.value ∙ c.in_ok-rows.ensures.rows) noted)) c.note_rows.ensures

pub returns-clause-changes : goal.returns-clause-changes
returns-clause-changes c =
    on_ok c.note_rows.result (λ noted. joined-changes (changes_of c.note_rows.new.newest.entries) (changes_of c.args.newest.now.entries) c.args.changes.now.changes (joined-rows _ _ _ _ (ap shown c.as_slice.ensures.value ∙ c.in_ok-rows.ensures.rows) noted)
    c.requires.changes c.in_ok-rows.ensures.held.each) c.note_rows.ensures
