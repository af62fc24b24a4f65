use Rattle.std.proofs.Common.{◌≤◌, ◌-◌, ◌==◌, length}
use Rattle.std.specs.List.{position_or_len}
use Rattle.script_io.proofs.words.passed_over.Given as goal

abbrev pub invariant-loop-chunk : goal.invariant-loop-chunk
invariant-loop-chunk l = record {
  within : l.passed ≤ length l.bytes;
  none : l.passed ≤ position_or_len (λ b. b == l.byte) l.bytes;
}

abbrev pub decreases-loop-chunk : goal.decreases-loop-chunk
decreases-loop-chunk l = length l.bytes - l.passed
