use Rattle.std.proofs.Common.{refl, sym, ◌∙◌}
use Rattle.std.proofs.lemmas.List.{take-append-drop}
use Rattle.hex.specs.Hex.{encode_lower}
use Rattle.script_io.proofs.Written.{in_digits, Sent-init, Sent-more, Sent-prefix}
use Rattle.script_io.proofs.output.put_digits.Goals as goal

pub loop-rest-init : goal.loop-rest-init
loop-rest-init g c = record { sent = Sent-init encode_lower in_digits _ _; faults = refl }

pub returns-in-Err-clause-written : goal.returns-in-Err-clause-written
returns-in-Err-clause-written g c = Sent-prefix encode_lower in_digits _ _ _ _ c.loop-rest.rest.now c.split_at.result.0.now c.split_at.result.1.now c.loop-rest.invariant.sent (rw (c.split_at.ensures.front, c.split_at.ensures.back) (sym (take-append-drop _ _))) c.in-Err.ensures.written

pub loop-rest-preserved : goal.loop-rest-preserved
loop-rest-preserved g c = record {
  sent = Sent-more encode_lower in_digits _ _ _ _ c.loop-rest.rest.now c.split_at.result.0.now c.split_at.result.1.now c.loop-rest.invariant.sent (rw (c.split_at.ensures.front, c.split_at.ensures.back) (sym (take-append-drop _ _))) c.in-Ok.ensures.written;
  faults = c.in-Ok.ensures.counted.same ∙ c.loop-rest.invariant.faults;
}
