use Rattle.std.proofs.Common.{sym, ◌∙◌}
use Rattle.script_io.proofs.IdText.{id_of-some, id_of-none}
use Rattle.script_io.proofs.ids.read_id.Goals as goal

pub returns-in-Ok : goal.returns-in-Ok
returns-in-Ok c = sym (id_of-some c.args.text.now c.in-Ok.bytes (sym c.from_hex.ensures ∙ c.in-Ok.is))

pub returns-in-Err : goal.returns-in-Err
returns-in-Err c = sym (id_of-none c.args.text.now _ (sym c.from_hex.ensures ∙ c.in-Err.is))
