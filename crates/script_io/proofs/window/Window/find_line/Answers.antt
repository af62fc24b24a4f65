use Rattle.std.proofs.Common.{◌∙◌, sym, ℕ, length, drop, ap}
use Rattle.script_io.proofs.FirstLine.{fed, finds_fed, bounds_fed, open_judged, counted_judged, finds_fault, open_fault, counted_fault, last_line, last_bounds, open_failed, fill_falls, scanned-filled, Extends-filled}
use Rattle.script_io.proofs.window.Window.find_line.Goals as goal

pub returns-in-Some-clause-finds : goal.returns-in-Some-clause-finds
returns-in-Some-clause-finds g c = finds_fed _ _ _ _ c.args.before c.in-Some.length c.judged.result c.loop-length.invariant.extends.bytes c.in-Some.ensures.0 c.in-Some.ensures.1 c.judged.ensures

pub returns-in-Some-clause-fits : goal.returns-in-Some-clause-fits
returns-in-Some-clause-fits g c = bounds_fed _ c.args.before c.in-Some.length c.judged.result c.in-Some.ensures.0 c.judged.ensures

pub returns-in-Some-clause-undecided : goal.returns-in-Some-clause-undecided
returns-in-Some-clause-undecided g c = open_judged c.args.before _ (fed c.in-Some.length) c.judged.result c.judged.ensures

pub returns-in-Some-clause-counted : goal.returns-in-Some-clause-counted
returns-in-Some-clause-counted g c = c.loop-length.invariant.faults ∙ sym (counted_judged c.args.before (fed c.in-Some.length) c.judged.result _ c.judged.ensures)

pub returns-in-Some-fault-clause-finds : goal.returns-in-Some-fault-clause-finds
returns-in-Some-fault-clause-finds g c =
    finds_fault _ _ _ _ c.args.before c.in-Some-fault.error c.loop-length.invariant.extends.bytes c.in_default.ensures (rw (← c.pending-scanned.ensures) c.in-Some-fault.ensures)

pub returns-in-Some-fault-clause-undecided : goal.returns-in-Some-fault-clause-undecided
returns-in-Some-fault-clause-undecided g c = open_fault c.args.before _ c.in-Some-fault.error _ c.in-Some-fault.ensures

pub returns-in-Some-fault-clause-counted : goal.returns-in-Some-fault-clause-counted
returns-in-Some-fault-clause-counted g c = c.loop-length.invariant.faults ∙ sym (counted_fault c.in-Some-fault.error _ _ c.in-Some-fault.ensures)

pub returns-in_err-fill-clause-undecided : goal.returns-in_err-fill-clause-undecided
returns-in_err-fill-clause-undecided g c =
    open_failed c.args.before _ _ _ c.from_residual.result (ap (λ (n : ℕ). drop n c.fill.new.self.bytes.items) c.fill.ensures.start ∙ c.in_err-fill.ensures.err) c.in_default.ensures (ap length c.pending-scanned.ensures) c.in_default-fault.ensures

pub returns-else-scanned-eq0-clause-finds : goal.returns-else-scanned-eq0-clause-finds
returns-else-scanned-eq0-clause-finds g c =
    last_line _ _ _ _ _ c.fill.new.self.bytes.items _ c.args.before c.in_ok-fill.field-0 _ c.loop-length.invariant.extends.bytes c.in_ok-fill.ensures.takes c.if-branch-eq0.true
    (record { prefix = c.in_ok-fill.ensures.kept; count = c.in_ok-fill.ensures.more; moved = ap (λ (n : ℕ). drop n c.fill.new.self.bytes.items) c.fill.ensures.start }) (ap length c.pending-scanned.ensures) c.if-scanned-eq0.false c.in_default.ensures c.in_default-fault.ensures

pub returns-else-scanned-eq0-clause-fits : goal.returns-else-scanned-eq0-clause-fits
returns-else-scanned-eq0-clause-fits g c =
    last_bounds _ c.fill.new.self.bytes.items _ c.args.before c.in_ok-fill.field-0 _
    (record { prefix = c.in_ok-fill.ensures.kept; count = c.in_ok-fill.ensures.more; moved = ap (λ (n : ℕ). drop n c.fill.new.self.bytes.items) c.fill.ensures.start }) (ap length c.pending-scanned.ensures) c.if-scanned-eq0.false c.in_default-fault.ensures

pub loop-length-smaller : goal.loop-length-smaller
loop-length-smaller g c =
    fill_falls _ c.fill.new.self.bytes.items _ c.args.before c.in_ok-fill.field-0 _
    (record { prefix = c.in_ok-fill.ensures.kept; count = c.in_ok-fill.ensures.more; moved = ap (λ (n : ℕ). drop n c.fill.new.self.bytes.items) c.fill.ensures.start }) c.if-branch-eq0.false (ap length c.pending-scanned.ensures) c.in_default-fault.ensures

pub loop-length-preserved : goal.loop-length-preserved
loop-length-preserved g c = record {
  extends = Extends-filled _ _ _ _ _ c.fill.new.self.bytes.items _ c.in_ok-fill.field-0 c.loop-length.invariant.extends c.in_ok-fill.ensures.takes (record { prefix = c.in_ok-fill.ensures.kept; count = c.in_ok-fill.ensures.more; moved = ap (λ (n : ℕ). drop n c.fill.new.self.bytes.items) c.fill.ensures.start });
  scanned = scanned-filled _ c.fill.new.self.bytes.items _ c.in_ok-fill.field-0 _ (record { prefix = c.in_ok-fill.ensures.kept; count = c.in_ok-fill.ensures.more; moved = ap (λ (n : ℕ). drop n c.fill.new.self.bytes.items) c.fill.ensures.start }) (ap length c.pending-scanned.ensures) c.in_default.ensures;
  faults = c.in_ok-fill.ensures.counted ∙ c.loop-length.invariant.faults;
}
