-- The recording that a `Proof` is, and what is answered where bytes are read as one.
use Rattle.std.specs.Prelude.{◌≡◌, ℕ, List, Result, Ok, Err, ⊤}
use Rattle.record_model.specs.Fields.{Cursor}
use Rattle.batch_model.specs.Changes.{most_changes}
use Rattle.partial_model.specs.Recording.{Recording, RecordingFault, frame, head, order, clash, ReadHead, recording_in}
use Rattle.base_core.specs.Reading.{fault_of}
use Rattle.text_store.specs.PartialStates.{unread}
use Rattle.text_store.specs.declared.errors.PartialError.{PartialError}
use Rattle.text_store.specs.declared.errors.PartialError.TheVariants as partial
use Rattle.partial_state.specs.declared.proof.Proof.{Proof}
use Rattle.partial_state.specs.declared.proof_error.ProofError.{ProofError}
use Rattle.partial_state.specs.declared.proof_error.ProofError.TheVariants.{Frame, Head, Order, Clash, NoMemory}

-- without the marks on its texts, and without how many keys its batch may change
abbrev pub recording_of : Proof → Recording
recording_of proof = record { root = proof.root.0; reads = proof.ops.reads; changes = proof.ops.batch.changes; state = proof.state.texts }

-- why bytes were refused as a partial state, as told of a recording
abbrev pub passed : PartialError → ProofError
passed (partial.Frame error) = Frame error
passed (partial.Order place) = Order place
passed (partial.Clash digest) = Clash digest
passed partial.NoMemory = NoMemory

-- why bytes were refused: what reading them says, or there was no memory
abbrev pub IsRefused : {X : Type 0} → ProofError → Result X RecordingFault → Type 0
IsRefused NoMemory read = ⊤
IsRefused (Frame error) read = read ≡ Err (frame (fault_of error))
IsRefused (Head at) read = read ≡ Err (head at)
IsRefused (Order place) read = read ≡ Err (order place)
IsRefused (Clash digest) read = read ≡ Err (clash digest.0)

-- As it was read, a recording has no marks and no loads, and room for changes of as many keys as may be.
pub record IsFresh (proof : Proof) : Type 0 where
  pub most : proof.ops.batch.most ≡ most_changes
  pub unmarked : proof.state ≡ unread proof.state.texts

-- what is answered where bytes are read as a recording
abbrev pub AnswersRecording : Result Proof ProofError → List ℕ → Type 0
AnswersRecording (Ok proof) bytes = (recording_in bytes ≡ Ok (recording_of proof)) × IsFresh proof
AnswersRecording (Err error) bytes = IsRefused error (recording_in bytes)

-- and where a part is read from a reader, which is left behind it
abbrev pub Reads : {X Y : Type 0} → (X → Y) → Result X ProofError → Cursor → Cursor → (Cursor → ReadHead Y) → Type 0
Reads view (Ok x) old new read = read old ≡ Ok (view x, new)
Reads view (Err error) old new read = IsRefused error (read old)
