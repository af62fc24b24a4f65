use Rattle.std.proofs.Common.{is_some, sym, ap, ◌∙◌}
use Rattle.flat_store.specs.Kept.{changes_of}
use Rattle.flat_store.proofs.Tables.{get-map}
use Rattle.flat_store.proofs.Noting.{noted-held, noted-new, on_ok}
use Rattle.flat_store.proofs.maps.note_row.Goals as goal

pub returns-then-contains_key : goal.returns-then-contains_key
returns-then-contains_key c = noted-held _ c.args.key.now _ (ap is_some (get-map _ c.args.key.now) ∙ sym c.contains_key.ensures ∙ c.if-contains_key.true)

pub returns : goal.returns
returns c = on_ok c.put_copy.result (λ put. noted-new (changes_of c.args.newest.now.entries) _ c.args.key.now _ (ap is_some (get-map _ c.args.key.now) ∙ sym c.contains_key.ensures ∙ c.if-contains_key.false) put) c.put_copy.ensures.ok
