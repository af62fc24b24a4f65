use Rattle.std.proofs.Common.{◌≡◌, ℕ, List, None, Ok, Err, subst, sym, ◌∙◌}
use Rattle.trie_model.specs.Root as trie
use Rattle.recording_model.specs.Replays.{replay_visits, first_spare}
use Rattle.recording_model.proofs.Exact.{exact-texts}
use Rattle.recording_model.proofs.Used.{all-used}
use Rattle.text_store.specs.PartialStates.{table_of}
use Rattle.text_store.proofs.PartialTables.{table-found}
use Rattle.partial_state.specs.declared.prove_error.ProveError.{ProveError}
use Rattle.partial_state.specs.declared.prove_error.ProveError.TheVariants as prove
use Rattle.partial_state.specs.declared.replaying.ReplayError.TheVariants.{Missing, Bad, Usage, Clash, Spare}
use Rattle.partial_state.specs.Replays.{visits_of, IsStopped, MeetsState}
use Rattle.partial_state.proofs.Complete.{replays-recording}
use Rattle.partial_state.proofs.Strangers.{stranger-apart, stranger-agrees, stranger-only}
use Rattle.partial_state.proofs.Spares.{unused-spare}
use Rattle.partial_state.proofs.replaying.replay.Goals as goal

pub returns-in-Some-clause-answer : goal.returns-in-Some-clause-answer
returns-in-Some-clause-answer c =
    let left = c.in-Ok.ensures.left in
    (c.in-Ok.ensures.answer.0, sym (unused-spare c.args.proof.now.state c.carry_all.new.store (visits_of c.args.proof.now).digests c.requires left.same left.remembered) ∙ sym c.in-Some.ensures)

pub returns-in-None-clause-answer : goal.returns-in-None-clause-answer
returns-in-None-clause-answer c =
    let left = c.in-Ok.ensures.left in
    (c.in-Ok.ensures.answer.0, c.in-Ok.ensures.answer.1, sym (unused-spare c.args.proof.now.state c.carry_all.new.store (visits_of c.args.proof.now).digests c.requires left.same left.remembered) ∙ sym c.in-None.ensures)

pub returns-in-None-clause-sound : goal.returns-in-None-clause-sound
returns-in-None-clause-sound c state is apart root =
    c.in-Ok.ensures.sound state is (stranger-apart state c.args.proof.now.state.texts apart) (stranger-agrees state c.args.proof.now.state.texts apart) root

pub returns-in-None-clause-exact : goal.returns-in-None-clause-exact
returns-in-None-clause-exact c state is apart root =
    let proof = c.args.proof.now in
    let texts : List (List ℕ) = proof.state.texts in
    let table = table_of texts in
    let reads : List (List ℕ) = proof.ops.reads in
    let changes = proof.ops.batch.changes in
    let answer = returns-in-None-clause-answer c in
    let within = c.in-Ok.ensures.within in
    let passed : (replay_visits table (trie.root state) reads changes).refusal ≡ None = subst (λ (r : List ℕ). (replay_visits table r reads changes).refusal ≡ None) root answer.0 in
    let spare : first_spare (replay_visits table (trie.root state) reads changes).digests texts ≡ None = subst (λ (r : List ℕ). first_spare (replay_visits table r reads changes).digests texts ≡ None) root answer.2 in
    exact-texts table state reads changes is within.reads_are within.changes_are (stranger-apart state texts apart) (stranger-agrees state texts apart) passed texts
    c.len.ensures.partial.rise (stranger-only texts) (λ text i. table-found texts text c.len.ensures.apart i) (all-used (replay_visits table (trie.root state) reads changes).digests texts spare)

-- ---- the recording of a state

pub returns-in-Some-clause-complete : goal.returns-in-Some-clause-complete
returns-in-Some-clause-complete c = λ state is apart root same.
    replays-recording c.args.proof.now state c.carry_all.ensures.within is apart root same (Err (Spare c.in-Some.place)) (returns-in-Some-clause-answer c) (λ m is_m holds at. tt)

pub returns-in-Err-Missing-clause-complete : goal.returns-in-Err-Missing-clause-complete
returns-in-Err-Missing-clause-complete c = λ state is apart root same.
    let answer : IsStopped (visits_of c.args.proof.now) (prove.Missing c.in-Err-Missing.digest) = rw c.in-Err-Missing.field-0-is at c.in-Err-Missing.ensures.answer in
    replays-recording c.args.proof.now state c.carry_all.ensures.within is apart root same (Err (Missing c.in-Err-Missing.digest)) answer (λ m is_m holds at. tt)

pub returns-in-Err-Bad-clause-complete : goal.returns-in-Err-Bad-clause-complete
returns-in-Err-Bad-clause-complete c = λ state is apart root same.
    let answer : IsStopped (visits_of c.args.proof.now) (prove.Bad c.in-Err-Bad.digest) = rw c.in-Err-Bad.field-0-is at c.in-Err-Bad.ensures.answer in
    replays-recording c.args.proof.now state c.carry_all.ensures.within is apart root same (Err (Bad c.in-Err-Bad.digest)) answer (λ m is_m holds at. tt)

pub returns-in-Err-Usage-clause-complete : goal.returns-in-Err-Usage-clause-complete
returns-in-Err-Usage-clause-complete c = λ state is apart root same.
    let answer : IsStopped (visits_of c.args.proof.now) (prove.Usage c.in-Err-Usage.digest) = rw c.in-Err-Usage.field-0-is at c.in-Err-Usage.ensures.answer in
    replays-recording c.args.proof.now state c.carry_all.ensures.within is apart root same (Err (Usage c.in-Err-Usage.digest)) answer (λ m is_m holds at. tt)

pub returns-in-Err-Clash-clause-complete : goal.returns-in-Err-Clash-clause-complete
returns-in-Err-Clash-clause-complete c = λ state is apart root same.
    let proof = c.args.proof.now in
    let end = c.in-Err-Clash in
    let answer : IsStopped (visits_of proof) (prove.Clash end.digest end.one end.other) = rw end.field-0-is at end.ensures.answer in
    replays-recording proof state c.carry_all.ensures.within is apart root same (Err (Clash end.digest end.one end.other)) answer
    (λ m is_m holds at. subst (λ (error : ProveError). MeetsState m proof.ops.batch.changes (Err error)) end.field-0-is (end.ensures.state m is_m holds at))

pub returns-in-None-clause-complete : goal.returns-in-None-clause-complete
returns-in-None-clause-complete c = λ state is apart root same.
    replays-recording c.args.proof.now state c.carry_all.ensures.within is apart root same (Ok c.in-Ok.replayed) (returns-in-None-clause-answer c) c.in-Ok.ensures.state
