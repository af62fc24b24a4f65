use Rattle.std.proofs.Common.{sym, ap, arith, inl, inr}
use Rattle.std.specs.Option.{option_map}
use Rattle.script_model.proofs.LineFaults.{IsNotLong, fault-long, fault-past, fault-none}
use Rattle.script_io.specs.Windows.{error_of}
use Rattle.script_io.proofs.window.fault.Goals as goal
use Rattle.script_io.proofs.window.fault.Goals.{else-length-gt-LONGEST_LINE-via-then-length-gt-LONGEST_LINE+else-before-le-LONGEST_INPUT, else-length-gt-LONGEST_LINE-via-else-length-gt-LONGEST_LINE}

pub returns-then-before-le-LONGEST_INPUT : goal.returns-then-before-le-LONGEST_INPUT
returns-then-before-le-LONGEST_INPUT c = sym (ap (option_map error_of) (fault-long c.args.before c.args.length c.args.feed (omega arith) (omega arith)))

pub returns-then-length-before : goal.returns-then-length-before
returns-then-length-before c =
    let h : IsNotLong c.args.before c.args.length = elim c.else-length-gt-LONGEST_LINE.branch [
      | else-length-gt-LONGEST_LINE-via-then-length-gt-LONGEST_LINE+else-before-le-LONGEST_INPUT w ↦ inr (omega arith)
      | else-length-gt-LONGEST_LINE-via-else-length-gt-LONGEST_LINE w ↦ inl (omega arith)
    ] in
    sym (ap (option_map error_of) (fault-past c.args.before c.args.length c.args.feed h (omega arith)))

pub returns-else-length-before : goal.returns-else-length-before
returns-else-length-before c =
    let h : IsNotLong c.args.before c.args.length = elim c.else-length-gt-LONGEST_LINE.branch [
      | else-length-gt-LONGEST_LINE-via-then-length-gt-LONGEST_LINE+else-before-le-LONGEST_INPUT w ↦ inr (omega arith)
      | else-length-gt-LONGEST_LINE-via-else-length-gt-LONGEST_LINE w ↦ inl (omega arith)
    ] in
    sym (ap (option_map error_of) (fault-none c.args.before c.args.length c.args.feed h (omega arith)))
