use Rattle.std.proofs.Common.{sym}
use Rattle.script_model.specs.Words.{is_equals}
use Rattle.script_io.proofs.Cuts.{list_any-past_end, list_any-at_position, before_first-at, after_first-at}
use Rattle.script_io.proofs.words.cut_pair.Goals as goal

pub returns-in-None : goal.returns-in-None
returns-in-None c = list_any-past_end is_equals c.args.text.now (sym c.in-None.ensures.first)

pub returns-in-Some : goal.returns-in-Some
returns-in-Some c =
    let found = sym c.in-Some.ensures.first in
    (list_any-at_position is_equals c.args.text.now c.in-Some.index found, before_first-at is_equals c.args.text.now c.in-Some.index found, after_first-at is_equals c.args.text.now c.in-Some.index found)
