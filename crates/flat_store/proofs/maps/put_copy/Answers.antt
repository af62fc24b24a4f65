use Rattle.std.proofs.Common.{Some, ap, ◌∙◌}
use Rattle.flat_store.proofs.Tables.{map-put}
use Rattle.flat_store.proofs.maps.put_copy.Goals as goal

pub returns-in-Ok-clause-ok : goal.returns-in-Ok-clause-ok
returns-in-Ok-clause-ok c = map-put _ _ c.in_ok-from_slice.field-0.items c.args.key.now _ c.in_ok-from_slice.ensures.items (c.in-Ok.ensures.updates.1 ∙ ap Some c.in_ok-value.ensures) c.in-Ok.ensures.updates.3
