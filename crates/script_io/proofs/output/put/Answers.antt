use Rattle.std.proofs.Common.{◌∙◌}
use Rattle.script_io.proofs.Written.{Sent-taken}
use Rattle.script_io.proofs.output.put.Goals as goal

pub loop-rest-preserved : goal.loop-rest-preserved
loop-rest-preserved g c = record {
  sent = Sent-taken _ _ _ _ _ _ c.loop-rest.invariant.sent c.in_ok-taken.ensures.bytes;
  faults = c.in_ok-taken.ensures.counted.same ∙ c.loop-rest.invariant.faults;
}
