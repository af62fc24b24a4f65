use Rattle.std.proofs.Common.{◌≡◌, ◌+◌, ◌-◌, length, drop}
use Rattle.script_model.specs.Lines.{longest_input}
use Rattle.script_io.specs.LinesStates.{Extends}
use Rattle.script_io.proofs.feed.read_all.Given as goal

abbrev pub invariant-loop-before : goal.invariant-loop-before
invariant-loop-before g l = record {
  extends : Extends (drop l.fn.window.start l.fn.window.bytes.items) (g.S.Source.left l.fn.source) (drop l.window.start l.window.bytes.items) (g.S.Source.left l.source);
  faults : g.S.Source.faults l.source ≡ g.S.Source.faults l.fn.source;
}

abbrev pub decreases-loop-before : goal.decreases-loop-before
decreases-loop-before g l = longest_input + 1 - (l.before + length (drop l.window.start l.window.bytes.items))
