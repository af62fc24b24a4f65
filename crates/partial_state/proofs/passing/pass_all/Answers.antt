use Rattle.std.proofs.Common.{Ok, Err, refl}
use Rattle.recording_model.specs.Replays.{reads_visits}
use Rattle.base_core.specs.Faults.{done}
use Rattle.partial_state.specs.Replays.{by_prove_error}
use Rattle.partial_state.proofs.Limits.{are_within}
use Rattle.partial_state.proofs.Carried.{lent-refused, lent-left, lent-done, lent-stopped, lent-state}
use Rattle.partial_state.proofs.passing.pass_all.Goals as goal

pub returns-in-Err-clause-answer : goal.returns-in-Err-clause-answer
returns-in-Err-clause-answer g c =
    (lent-refused g.T.Texts.store c.args.store.now c.pass_reads.new.store c.args.root.now.0 c.args.ops.now c.reads.result.now c.args.ops.now.batch c.reads.ensures.reads refl (λ (passed : Unit {0}). (reads_visits (g.T.Texts.store.texts c.args.store.now) c.args.root.now.0 c.reads.result.now).answers) c.in-Err.error c.in-Err.ensures.answer c.in-Err.ensures.left).0

pub returns-in-Err-clause-left : goal.returns-in-Err-clause-left
returns-in-Err-clause-left g c =
    (lent-refused g.T.Texts.store c.args.store.now c.pass_reads.new.store c.args.root.now.0 c.args.ops.now c.reads.result.now c.args.ops.now.batch c.reads.ensures.reads refl (λ (passed : Unit {0}). (reads_visits (g.T.Texts.store.texts c.args.store.now) c.args.root.now.0 c.reads.result.now).answers) c.in-Err.error c.in-Err.ensures.answer c.in-Err.ensures.left).1

pub returns-in-Ok-carry_out-clause-answer : goal.returns-in-Ok-carry_out-clause-answer
returns-in-Ok-carry_out-clause-answer g c =
    let same = g.met.T.Texts.alike_texts c.args.store.now c.pass_reads.new.store c.in-Ok.ensures.left.same in
    (lent-done g.T.Texts.store c.args.store.now c.pass_reads.new.store c.args.root.now.0 c.args.ops.now c.reads.result.now c.changes.result.now c.reads.ensures.reads c.changes.ensures same c.in-Ok.ensures.answer.0 (reads_visits (g.T.Texts.store.texts c.args.store.now) c.args.root.now.0 c.reads.result.now).answers refl c.in-Ok-carry_out.ensures.answer).0

pub returns-in-Ok-carry_out-clause-left : goal.returns-in-Ok-carry_out-clause-left
returns-in-Ok-carry_out-clause-left g c =
    let same = g.met.T.Texts.alike_texts c.args.store.now c.pass_reads.new.store c.in-Ok.ensures.left.same in
    lent-left g.T.Texts.store c.args.store.now c.pass_reads.new.store c.args.root.now.0 c.args.ops.now c.reads.result.now c.changes.result.now c.reads.ensures.reads c.changes.ensures same c.in-Ok.ensures.answer.0 g.met.T.Texts.alike_onward c.carry_out.new.store done c.in-Ok.ensures.left c.in-Ok-carry_out.ensures.left

pub returns-in-Err-carry_out-clause-answer : goal.returns-in-Err-carry_out-clause-answer
returns-in-Err-carry_out-clause-answer g c =
    let same = g.met.T.Texts.alike_texts c.args.store.now c.pass_reads.new.store c.in-Ok.ensures.left.same in
    lent-stopped g.T.Texts.store c.args.store.now c.pass_reads.new.store c.args.root.now.0 c.args.ops.now c.reads.result.now c.changes.result.now c.reads.ensures.reads c.changes.ensures same c.in-Ok.ensures.answer.0 c.in-Err-carry_out.error c.in-Err-carry_out.ensures.answer

pub returns-in-Err-carry_out-clause-left : goal.returns-in-Err-carry_out-clause-left
returns-in-Err-carry_out-clause-left g c =
    let same = g.met.T.Texts.alike_texts c.args.store.now c.pass_reads.new.store c.in-Ok.ensures.left.same in
    lent-left g.T.Texts.store c.args.store.now c.pass_reads.new.store c.args.root.now.0 c.args.ops.now c.reads.result.now c.changes.result.now c.reads.ensures.reads c.changes.ensures same c.in-Ok.ensures.answer.0 g.met.T.Texts.alike_onward c.carry_out.new.store (by_prove_error c.in-Err-carry_out.error) c.in-Ok.ensures.left c.in-Err-carry_out.ensures.left

pub returns-in-Ok-carry_out-clause-state : goal.returns-in-Ok-carry_out-clause-state
returns-in-Ok-carry_out-clause-state g c state is holds root =
    let same = g.met.T.Texts.alike_texts c.args.store.now c.pass_reads.new.store c.in-Ok.ensures.left.same in
    (lent-state g.T.Texts.store c.args.store.now c.pass_reads.new.store c.args.root.now.0 c.args.ops.now c.reads.result.now c.changes.result.now c.reads.ensures.reads c.changes.ensures same c.in-Ok.ensures.answer.0 state (Ok c.in-Ok-carry_out.field-0) is root c.in-Ok-carry_out.ensures.state holds).1

pub returns-in-Err-carry_out-clause-state : goal.returns-in-Err-carry_out-clause-state
returns-in-Err-carry_out-clause-state g c state is holds root =
    let same = g.met.T.Texts.alike_texts c.args.store.now c.pass_reads.new.store c.in-Ok.ensures.left.same in
    lent-state g.T.Texts.store c.args.store.now c.pass_reads.new.store c.args.root.now.0 c.args.ops.now c.reads.result.now c.changes.result.now c.reads.ensures.reads c.changes.ensures same c.in-Ok.ensures.answer.0 state (Err c.in-Err-carry_out.error) is root c.in-Err-carry_out.ensures.state holds

pub returns-in-Err-clause-within : goal.returns-in-Err-clause-within
returns-in-Err-clause-within g c = are_within c.args.ops.now c.reads.ensures.held c.changed.ensures.held

pub returns-in-Ok-carry_out-clause-within : goal.returns-in-Ok-carry_out-clause-within
returns-in-Ok-carry_out-clause-within g c = are_within c.args.ops.now c.reads.ensures.held c.changed.ensures.held

pub returns-in-Err-carry_out-clause-within : goal.returns-in-Err-carry_out-clause-within
returns-in-Err-carry_out-clause-within g c = are_within c.args.ops.now c.reads.ensures.held c.changed.ensures.held
