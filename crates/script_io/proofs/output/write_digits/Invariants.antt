use Rattle.std.proofs.Common.{◌≡◌, ◌≤◌, ◌++◌, length, drop}
use Rattle.std.specs.Fmt.{decimal}
use Rattle.script_io.proofs.output.write_digits.Given as goal

abbrev pub invariant-loop-rest : goal.invariant-loop-rest
invariant-loop-rest l = record {
  whole : decimal l.rest ++ drop l.start l.digits ≡ decimal l.n;
  room : length (decimal l.rest) ≤ l.start;
  within : l.start ≤ 20;
  smaller : l.rest ≤ l.n;
}

abbrev pub decreases-loop-rest : goal.decreases-loop-rest
decreases-loop-rest l = l.rest
