use Rattle.std.specs.Option.{option_copied}
use Rattle.partial_state.proofs.Batches.{KeepsBatch}
use Rattle.partial_state.proofs.reading.read_batch.Given as goal

abbrev pub invariant-loop : goal.invariant-loop
invariant-loop l = KeepsBatch l.fn.reader l.count l.changes l.counter (option_copied l.earlier) l.reader
