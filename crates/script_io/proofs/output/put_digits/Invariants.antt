use Rattle.std.proofs.Common.{◌≡◌, length}
use Rattle.hex.specs.Hex.{encode_lower}
use Rattle.script_io.proofs.Written.{Sent}
use Rattle.script_io.proofs.output.put_digits.Given as goal

abbrev pub invariant-loop-rest : goal.invariant-loop-rest
invariant-loop-rest g l = record {
  sent : Sent encode_lower (g.K.Sink.written l.fn.sink) (g.K.Sink.written l.sink) l.bytes l.rest;
  faults : g.K.Sink.faults l.sink ≡ g.K.Sink.faults l.fn.sink;
}

abbrev pub decreases-loop-rest : goal.decreases-loop-rest
decreases-loop-rest g l = length l.rest
