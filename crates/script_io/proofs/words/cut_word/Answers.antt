use Rattle.std.proofs.Common.{sym}
use Rattle.script_io.proofs.Cuts.{slice_split-whole, slice_split-cut}
use Rattle.script_model.specs.Lines.{is_space}
use Rattle.script_io.proofs.words.cut_word.Goals as goal

pub returns-in-Some : goal.returns-in-Some
returns-in-Some c = slice_split-cut is_space c.args.line.now c.in-Some.index (sym c.in-Some.ensures.first)

pub returns-in-None : goal.returns-in-None
returns-in-None c = slice_split-whole is_space c.args.line.now (sym c.in-None.ensures.first)
