use Rattle.partial_state.proofs.Keys.{ReadsKeys}
use Rattle.partial_state.proofs.reading.read_keys.Given as goal

abbrev pub invariant-loop : goal.invariant-loop
invariant-loop l = ReadsKeys l.fn.reader l.count l.keys.items l.counter l.reader
