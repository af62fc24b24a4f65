use Rattle.std.proofs.Common.{◌≡◌, ℕ, List, None, Result, OnOk, false, subst}
use Rattle.std.specs.FinSet as set
use Rattle.recording_model.specs.Replays.{Visits, replay_visits}
use Rattle.text_store.specs.Leaves.{with_all}
use Rattle.partial_state.specs.declared.prove_error.ProveError.{ProveError}
use Rattle.partial_state.specs.Proofs.{AnswersProve, ProvesState}
use Rattle.partial_state.specs.Recorders.{noted_digests}
use Rattle.partial_state.proofs.Notes.{apart}
use Rattle.partial_state.proofs.Proved.{proved-recording, exactly-made, proves-made, untested-made, untested-stopped}
use Rattle.partial_state.proofs.proving.prove.Goals as goal

pub noted_proof-requires : goal.noted_proof-requires
noted_proof-requires g c =
    let carried = c.carry_noted-answer in
    apart (g.T.Texts.store.texts c.args.store.now) carried.result.1.texts carried.ensures.held

pub returns-in-Ok-clause-recording : goal.returns-in-Ok-clause-recording
returns-in-Ok-clause-recording g c =
    let table = g.T.Texts.store.texts c.args.store.now in
    let ops = c.args.ops in
    let carried = c.carry_noted-answer in
    let notes = carried.result.1 in
    let digests = (replay_visits table c.args.root.now.0 ops.reads ops.batch.changes).digests in
    let noted : notes.short ≡ false → noted_digests notes ≡ with_all set.empty digests = subst (λ (r : Result (Unit {0}) ProveError). OnOk r (notes.short ≡ false → noted_digests notes ≡ with_all set.empty digests)) c.in-Ok.is carried.ensures.noted in
    proved-recording c.args.root.now ops table digests notes c.noted_proof.result carried.ensures.held noted c.noted_proof.ensures.ok

pub returns-in-Ok-clause-exact : goal.returns-in-Ok-clause-exact
returns-in-Ok-clause-exact g c state is free agrees root =
    let table = g.T.Texts.store.texts c.args.store.now in
    let ops = c.args.ops in
    let carried = c.carry_noted-answer in
    let notes = carried.result.1 in
    let visits : List ℕ → Visits = λ r. replay_visits table r ops.reads ops.batch.changes in
    let told : (notes.short ≡ false → noted_digests notes ≡ with_all set.empty (visits c.args.root.now.0).digests) = subst (λ (r : Result (Unit {0}) ProveError). OnOk r (notes.short ≡ false → noted_digests notes ≡ with_all set.empty (visits c.args.root.now.0).digests)) c.in-Ok.is carried.ensures.noted in
    let answer = subst (λ (r : Result (Unit {0}) ProveError). AnswersProve (visits c.args.root.now.0) r) c.in-Ok.is carried.ensures.answer in
    exactly-made c.args.root.now ops table state notes c.noted_proof.result is carried.ensures.within free agrees (subst (λ (r : List ℕ). (visits r).refusal ≡ None) root answer) carried.ensures.held
    (λ whole. subst (λ (r : List ℕ). noted_digests notes ≡ with_all set.empty (visits r).digests) root (told whole)) c.noted_proof.ensures.ok

-- ---- over a state

pub returns-in-Ok-clause-state : goal.returns-in-Ok-clause-state
returns-in-Ok-clause-state g c state is holds root =
    let changes = c.args.ops.batch.changes in
    let meets = subst (λ (r : Result (Unit {0}) ProveError). ProvesState state changes r) c.in-Ok.is (c.carry_noted-answer.ensures.state state is holds root) in
    proves-made state changes c.noted_proof.result meets c.noted_proof.ensures.err

pub returns-in-Err-clause-state : goal.returns-in-Err-clause-state
returns-in-Err-clause-state g c state is holds root =
    subst (λ (r : Result (Unit {0}) ProveError). ProvesState state c.args.ops.batch.changes r) c.in-Err.is (c.carry_noted-answer.ensures.state state is holds root)

pub returns-in-Ok-clause-full : goal.returns-in-Ok-clause-full
returns-in-Ok-clause-full g c state is holds root = untested-made c.noted_proof.result c.noted_proof.ensures.err

pub returns-in-Err-clause-full : goal.returns-in-Err-clause-full
returns-in-Err-clause-full g c state is holds root =
    let table = g.T.Texts.store.texts c.args.store.now in
    let ops = c.args.ops in
    let carried = c.carry_noted-answer in
    let stopped = subst (λ (r : Result (Unit {0}) ProveError). AnswersProve (replay_visits table c.args.root.now.0 ops.reads ops.batch.changes) r) c.in-Err.is carried.ensures.answer in
    untested-stopped table state c.args.root.now.0 ops.reads ops.batch.changes c.in-Err.error holds is carried.ensures.within root stopped
