use Rattle.std.proofs.Common.{◌≡◌, [], OnOk, false, subst}
use Rattle.std.specs.FinSet as set
use Rattle.change_model.specs.Places.{touched_places}
use Rattle.change_model.specs.Tables.{HoldsPlaces}
use Rattle.recording_model.specs.Replays.{replay_visits}
use Rattle.text_store.specs.Store.{Digests}
use Rattle.text_store.specs.Leaves.{with_all}
use Rattle.partial_state.specs.Proofs.{ProvesState}
use Rattle.partial_state.specs.Recorders.{noted_digests}
use Rattle.partial_state.proofs.Notes.{noted-none}
use Rattle.partial_state.proofs.proving.carry_noted.Goals as goal

pub returns-clause-noted : goal.returns-clause-noted
returns-clause-noted g c =
    let store = g.T.Texts.store in
    let root = c.args.root.now.0 in
    let ops = c.args.ops.now in
    let made = c.new-recorder in
    let carried = c.carry_recorded-answer in
    let new = carried.new.recorder.notes in
    subst (λ (s : g.row.T.Denot). OnOk carried.result (new.short ≡ false → noted_digests new ≡ with_all set.empty (replay_visits (store.texts s) root ops.reads ops.batch.changes).digests)) made.ensures.store
    (subst (λ (kept : Digests). OnOk carried.result (new.short ≡ false → noted_digests new ≡ with_all kept (replay_visits (store.texts made.result.store.store.now) root ops.reads ops.batch.changes).digests)) (noted-none made.result.notes made.ensures.notes) carried.ensures.noted)

pub returns-clause-state : goal.returns-clause-state
returns-clause-state g c state is holds root =
    let texts = g.T.Texts.store.texts in
    let changes = c.args.ops.now.batch.changes in
    let carried = c.carry_recorded-answer in
    subst (λ (s : g.row.T.Denot). HoldsPlaces (texts s) state (touched_places state [] changes) → ProvesState state changes carried.result) c.new-recorder.ensures.store
    (λ held. carried.ensures.state state is held root) holds
