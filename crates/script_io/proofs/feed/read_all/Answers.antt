use Rattle.std.proofs.Common.{ℕ, drop, ap, ◌∙◌}
use Rattle.script_io.proofs.FirstLine.{Extends-filled}
use Rattle.script_io.proofs.feed.read_all.Goals as goal

pub loop-before-preserved : goal.loop-before-preserved
loop-before-preserved g c = record {
  extends = Extends-filled _ _ _ _ _ c.fill.new.window.bytes.items _ c.in_ok-fill.field-0 c.loop-before.invariant.extends c.in_ok-fill.ensures.takes (record { prefix = c.in_ok-fill.ensures.kept; count = c.in_ok-fill.ensures.more; moved = ap (λ (n : ℕ). drop n c.fill.new.window.bytes.items) c.fill.ensures.start });
  faults = c.in_ok-fill.ensures.counted ∙ c.loop-before.invariant.faults;
}
