use Rattle.std.proofs.Common.{◌++◌, length}
use Rattle.byte_model.specs.Borsh.{borsh_u32}
use Rattle.partial_model.specs.Partial.{spelled_texts}
use Rattle.partial_state.proofs.Written.{WritesTexts}
use Rattle.partial_state.proofs.writing.write_reads.Given as goal

abbrev pub invariant-loop-key : goal.invariant-loop-key
invariant-loop-key l = WritesTexts (l.fn.writer ++ (borsh_u32 (length l.reads) ++ spelled_texts l.reads)) l.reads l.key-index l.writer
