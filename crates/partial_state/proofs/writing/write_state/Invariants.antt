use Rattle.std.proofs.Common.{◌++◌}
use Rattle.partial_model.specs.Partial.{spelled_partial}
use Rattle.partial_state.proofs.Written.{WritesTexts}
use Rattle.partial_state.proofs.writing.write_state.Given as goal

abbrev pub invariant-loop-place : goal.invariant-loop-place
invariant-loop-place l = WritesTexts (l.fn.writer ++ spelled_partial l.state.texts) l.state.texts l.place l.writer
