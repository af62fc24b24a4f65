use Rattle.std.proofs.Common.{◌≡◌, ◌+◌, ◌-◌, ◌≤◌, length, drop}
use Rattle.script_model.specs.Lines.{longest_line}
use Rattle.script_io.specs.LinesStates.{Extends}
use Rattle.script_io.specs.Windows.{feed_index}
use Rattle.script_io.proofs.window.Window.find_line.Given as goal

abbrev pub invariant-loop-length : goal.invariant-loop-length
invariant-loop-length g l = record {
  extends : Extends (drop l.fn.self.start l.fn.self.bytes.items) (g.S.Source.left l.fn.source) (drop l.self.start l.self.bytes.items) (g.S.Source.left l.source);
  scanned : l.scanned ≤ feed_index (drop l.self.start l.self.bytes.items);
  faults : g.S.Source.faults l.source ≡ g.S.Source.faults l.fn.source;
}

abbrev pub decreases-loop-length : goal.decreases-loop-length
decreases-loop-length g l = longest_line + 1 - length (drop l.self.start l.self.bytes.items)
