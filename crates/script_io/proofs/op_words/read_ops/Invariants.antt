use Rattle.std.proofs.Common.{map}
use Rattle.script_io.specs.Meanings.{op}
use Rattle.script_io.proofs.Operations.{IsReadTo}
use Rattle.script_io.proofs.op_words.read_ops.Given as goal

abbrev pub invariant-loop-word : goal.invariant-loop-word
invariant-loop-word l = IsReadTo l.fn.words l.word-index l.lacking (map op l.ops.items)
