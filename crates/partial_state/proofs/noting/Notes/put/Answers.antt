use Rattle.std.proofs.Common.{sym, ◌∙◌}
use Rattle.partial_state.proofs.Notes.{noted-put, noted-short}
use Rattle.partial_state.proofs.noting.Notes.put.Goals as goal

pub returns-then-is_err : goal.returns-then-is_err
returns-then-is_err c =
    noted-short c.args.self.now c.put.new.self c.args.text.now c.put.result (sym c.is_err.ensures.value ∙ c.if-is_err.true) c.put.ensures.err

pub returns-else-is_err : goal.returns-else-is_err
returns-else-is_err c =
    noted-put c.args.self.now c.put.new.self c.args.text.now c.put.result (sym c.is_err.ensures.value ∙ c.if-is_err.false) c.put.ensures.ok
