use Rattle.std.proofs.Common.{◌++◌, length, map}
use Rattle.std.specs.FinMap.{entries}
use Rattle.byte_model.specs.Borsh.{borsh_u32}
use Rattle.partial_model.specs.Recording.{spelled_changes}
use Rattle.partial_state.proofs.Written.{WritesChanges, seen}
use Rattle.partial_state.proofs.writing.write_changes.Given as goal

abbrev pub invariant-loop-row : goal.invariant-loop-row
invariant-loop-row l = WritesChanges (l.fn.writer ++ (borsh_u32 (length (entries l.fn.changes.changes)) ++ spelled_changes (entries l.fn.changes.changes))) (map seen l.row-items) l.row-index l.writer
