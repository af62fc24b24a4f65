use Rattle.std.proofs.Common.{ap, ◌∙◌}
use Rattle.flat_store.proofs.Listing.{block-held, changes-listed, no-changes}
use Rattle.flat_store.proofs.Noting.{on_ok, shown}
use Rattle.flat_store.proofs.lists.list.Goals as goal

pub list_rows-requires : goal.list_rows-requires
list_rows-requires c = block-held _ c.args.id.now.0 c.in-Some.changes.now c.in-Some.ensures.value

pub returns-clause-ok : goal.returns-clause-ok
returns-clause-ok c =
    on_ok c.list_rows.result (changes-listed _ c.args.id.now.0 c.in-Some.changes.now c.as_slice.result.now _ c.in-Some.ensures.value (ap shown c.as_slice.ensures.value ∙ c.in_ok-rows.ensures.rows)) c.list_rows.ensures.ok

pub returns-in_default-clause-ok : goal.returns-in_default-clause-ok
returns-in_default-clause-ok c = λ key some. no-changes _ c.args.id.now.0 key c.in_default.ensures.value some
