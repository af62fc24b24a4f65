use Rattle.script_io.proofs.Operations.{op_of-empty}
use Rattle.script_io.proofs.op_words.read_op.Goals as goal

pub returns-in-None : goal.returns-in-None
returns-in-None c = op_of-empty c.args.word.now c.in-None.ensures.cases
