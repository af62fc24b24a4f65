use Rattle.std.proofs.Common.{rules, ◌≢◌}
use Rattle.script_io.proofs.Operations.{op_of-reading, op_of-setting, op_of-deletion, op_of-other}
use Rattle.script_io.proofs.op_words.read_signed.Goals as goal

pub returns-in-63 : goal.returns-in-63
returns-in-63 c = rw (op_of-reading c.args.sign c.args.text.now c.in-63.is) c.read_reading.ensures

pub returns-in-43 : goal.returns-in-43
returns-in-43 c = rw (op_of-setting c.args.sign c.args.text.now c.in-43.is) c.read_setting.ensures

pub returns-in-45 : goal.returns-in-45
returns-in-45 c = rw (op_of-deletion c.args.sign c.args.text.now c.in-45.is) c.read_deletion.ensures

pub returns-in_default : goal.returns-in_default
returns-in_default c =
    let no_reading : c.args.sign ≢ 63 = search rules in
    let no_setting : c.args.sign ≢ 43 = search rules in
    let no_deletion : c.args.sign ≢ 45 = search rules in
    op_of-other c.args.sign c.args.text.now no_reading no_setting no_deletion
