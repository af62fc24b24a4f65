use Rattle.std.proofs.Common.{◌≡◌, ℕ, List, Option, Ok, Err, None, refl, ap, subst, ◌∙◌}
use Rattle.std.specs.Prelude.{Vec}
use Rattle.std.specs.declared.alloc.Global.{Global}
use Rattle.trie_model.specs.Root as trie
use Rattle.batch_model.specs.Changes.{Changes}
use Rattle.recording_model.proofs.Sound.{sound-answers, sound-places}
use Rattle.recording_model.specs.Replays.{replay_visits}
use Rattle.base_core.specs.Faults.{done}
use Rattle.partial_state.specs.Replays.{by_prove_error}
use Rattle.partial_state.proofs.Limits.{are_within}
use Rattle.partial_state.proofs.Carried.{lent-refused, lent-left, lent-done, lent-stopped, lent-state}
use Rattle.partial_state.proofs.carrying.carry_all.Goals as goal

pub returns-in-Err-clause-answer : goal.returns-in-Err-clause-answer
returns-in-Err-clause-answer g c =
    (lent-refused g.T.Texts.store c.args.store.now c.read_all.new.store c.args.root.now.0 c.args.ops.now c.reads.result.now c.args.ops.now.batch c.reads.ensures.reads refl (λ (answers : Vec (Option (List ℕ)) Global). answers.items) c.in-Err.error c.in-Err.ensures.answer c.in-Err.ensures.left).0

pub returns-in-Err-clause-left : goal.returns-in-Err-clause-left
returns-in-Err-clause-left g c =
    (lent-refused g.T.Texts.store c.args.store.now c.read_all.new.store c.args.root.now.0 c.args.ops.now c.reads.result.now c.args.ops.now.batch c.reads.ensures.reads refl (λ (answers : Vec (Option (List ℕ)) Global). answers.items) c.in-Err.error c.in-Err.ensures.answer c.in-Err.ensures.left).1

pub returns-in-Ok-carry_out-clause-answer : goal.returns-in-Ok-carry_out-clause-answer
returns-in-Ok-carry_out-clause-answer g c =
    let same = g.met.T.Texts.alike_texts c.args.store.now c.read_all.new.store c.in-Ok.ensures.left.same in
    lent-done g.T.Texts.store c.args.store.now c.read_all.new.store c.args.root.now.0 c.args.ops.now c.reads.result.now c.changes.result.now c.reads.ensures.reads c.changes.ensures same c.in-Ok.ensures.answer.0 c.new.result (c.new.ensures ∙ c.in-Ok.ensures.answer.1) c.in-Ok-carry_out.ensures.answer

pub returns-in-Ok-carry_out-clause-left : goal.returns-in-Ok-carry_out-clause-left
returns-in-Ok-carry_out-clause-left g c =
    let same = g.met.T.Texts.alike_texts c.args.store.now c.read_all.new.store c.in-Ok.ensures.left.same in
    lent-left g.T.Texts.store c.args.store.now c.read_all.new.store c.args.root.now.0 c.args.ops.now c.reads.result.now c.changes.result.now c.reads.ensures.reads c.changes.ensures same c.in-Ok.ensures.answer.0 g.met.T.Texts.alike_onward c.carry_out.new.store done c.in-Ok.ensures.left c.in-Ok-carry_out.ensures.left

pub returns-in-Err-carry_out-clause-answer : goal.returns-in-Err-carry_out-clause-answer
returns-in-Err-carry_out-clause-answer g c =
    let same = g.met.T.Texts.alike_texts c.args.store.now c.read_all.new.store c.in-Ok.ensures.left.same in
    lent-stopped g.T.Texts.store c.args.store.now c.read_all.new.store c.args.root.now.0 c.args.ops.now c.reads.result.now c.changes.result.now c.reads.ensures.reads c.changes.ensures same c.in-Ok.ensures.answer.0 c.in-Err-carry_out.error c.in-Err-carry_out.ensures.answer

pub returns-in-Err-carry_out-clause-left : goal.returns-in-Err-carry_out-clause-left
returns-in-Err-carry_out-clause-left g c =
    let same = g.met.T.Texts.alike_texts c.args.store.now c.read_all.new.store c.in-Ok.ensures.left.same in
    lent-left g.T.Texts.store c.args.store.now c.read_all.new.store c.args.root.now.0 c.args.ops.now c.reads.result.now c.changes.result.now c.reads.ensures.reads c.changes.ensures same c.in-Ok.ensures.answer.0 g.met.T.Texts.alike_onward c.carry_out.new.store (by_prove_error c.in-Err-carry_out.error) c.in-Ok.ensures.left c.in-Err-carry_out.ensures.left

pub returns-in-Ok-carry_out-clause-state : goal.returns-in-Ok-carry_out-clause-state
returns-in-Ok-carry_out-clause-state g c state is holds root =
    let same = g.met.T.Texts.alike_texts c.args.store.now c.read_all.new.store c.in-Ok.ensures.left.same in
    lent-state g.T.Texts.store c.args.store.now c.read_all.new.store c.args.root.now.0 c.args.ops.now c.reads.result.now c.changes.result.now c.reads.ensures.reads c.changes.ensures same c.in-Ok.ensures.answer.0 state (Ok c.in-Ok-carry_out.root) is root c.in-Ok-carry_out.ensures.state holds

pub returns-in-Err-carry_out-clause-state : goal.returns-in-Err-carry_out-clause-state
returns-in-Err-carry_out-clause-state g c state is holds root =
    let same = g.met.T.Texts.alike_texts c.args.store.now c.read_all.new.store c.in-Ok.ensures.left.same in
    lent-state g.T.Texts.store c.args.store.now c.read_all.new.store c.args.root.now.0 c.args.ops.now c.reads.result.now c.changes.result.now c.reads.ensures.reads c.changes.ensures same c.in-Ok.ensures.answer.0 state (Err c.in-Err-carry_out.error) is root c.in-Err-carry_out.ensures.state holds

pub returns-in-Err-clause-within : goal.returns-in-Err-clause-within
returns-in-Err-clause-within g c = are_within c.args.ops.now c.reads.ensures.held c.changed.ensures.held

pub returns-in-Ok-carry_out-clause-within : goal.returns-in-Ok-carry_out-clause-within
returns-in-Ok-carry_out-clause-within g c = are_within c.args.ops.now c.reads.ensures.held c.changed.ensures.held

pub returns-in-Err-carry_out-clause-within : goal.returns-in-Err-carry_out-clause-within
returns-in-Err-carry_out-clause-within g c = are_within c.args.ops.now c.reads.ensures.held c.changed.ensures.held

pub returns-in-Ok-carry_out-clause-sound : goal.returns-in-Ok-carry_out-clause-sound
returns-in-Ok-carry_out-clause-sound g c state is apart agrees root =
    let store = g.T.Texts.store in
    let table = store.texts c.args.store.now in
    let reads : List (List ℕ) = c.args.ops.now.reads in
    let changes : Changes = c.args.ops.now.batch.changes in
    let answer = returns-in-Ok-carry_out-clause-answer g c in
    let within = returns-in-Ok-carry_out-clause-within g c in
    let passed : (replay_visits table (trie.root state) reads changes).refusal ≡ None = subst (λ (r : List ℕ). (replay_visits table r reads changes).refusal ≡ None) root answer.0 in
    record {
      answers = answer.1 ∙ ap (λ (r : List ℕ). (replay_visits table r reads changes).answers) root ∙ sound-answers table state reads changes is within.reads_are within.changes_are apart agrees passed;
      root = (returns-in-Ok-carry_out-clause-state g c state is (sound-places table state reads changes is within.reads_are within.changes_are apart agrees passed) root).0;
    }
