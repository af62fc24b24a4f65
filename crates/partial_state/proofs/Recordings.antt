-- What is read of a recording, part by part.
use Rattle.std.proofs.Common.{◌≡◌, ℕ, List, length, Result, Ok, Err, IsErrAnd, IfOk, refl, sym, ap, subst, ◌∙◌, arith}
use Rattle.std.specs.FinMap.{entries, from_sorted}
use Rattle.byte_model.specs.Nibbles.{AreBytes}
use Rattle.byte_model.specs.Node.{digest_width}
use Rattle.record_model.specs.Fields.{FrameFault, Cursor, start_of, bytes_at, end_of}
use Rattle.batch_model.specs.Changes.{Changes, Change}
use Rattle.trie_model.specs.Root.{NoClash}
use Rattle.partial_model.specs.Partial as partial
use Rattle.partial_model.specs.Partial.{PartialFault, IsPartial, partial_at}
use Rattle.partial_model.specs.Recording.{Recording, IsRecording, RecordingFault, frame, reads_at, changes_at, in_state, in_frame, spelled_recording, recording_in}
use Rattle.partial_model.proofs.Changes.{from_sorted-entries}
use Rattle.partial_model.proofs.Recording.{recording_in-found}
use Rattle.base_core.specs.ChangeMaps.{ChangeMap, IsChangeMap}
use Rattle.base_core.specs.Reading.{fault_of}
use Rattle.text_store.specs.declared.errors.PartialError.{PartialError}
use Rattle.text_store.specs.declared.errors.PartialError.TheVariants as errors
use Rattle.text_store.specs.PartialStates as texts
use Rattle.text_store.proofs.Answering.{end_fault, end_reached}
use Rattle.base_core.proofs.PassedOn.{passed_on}
use Rattle.partial_state.specs.declared.proof.Proof.{Proof}
use Rattle.partial_state.specs.declared.proof_error.ProofError.{ProofError}
use Rattle.partial_state.specs.Operations.{AreReads}
use Rattle.partial_state.specs.Recordings.{AnswersRecording, IsRefused, passed}

-- ---- part by part

pub no_root : (bytes : List ℕ) (fault : FrameFault) → bytes_at digest_width (start_of bytes) ≡ Err fault → recording_in bytes ≡ Err (frame fault)
unfolding recording_in
no_root bytes fault e = rw e refl

pub no_reads : (bytes root : List ℕ) (a : Cursor) → bytes_at digest_width (start_of bytes) ≡ Ok (root, a) → (fault : RecordingFault) → reads_at a ≡ Err fault → recording_in bytes ≡ Err fault
unfolding recording_in
no_reads bytes root a root_is fault e = rw (root_is, e) refl

-- the root and the reads are there
pub record Begins (bytes root : List ℕ) (reads : List (List ℕ)) (c : Cursor) : Type 0 where
  pub before : Cursor
  pub root_is : bytes_at digest_width (start_of bytes) ≡ Ok (root, before)
  pub reads_are : reads_at before ≡ Ok (reads, c)

pub no_changes : (bytes root : List ℕ) (reads : List (List ℕ)) (c : Cursor) → Begins bytes root reads c → (fault : RecordingFault) → changes_at c ≡ Err fault → recording_in bytes ≡ Err fault
unfolding recording_in
no_changes bytes root reads c h fault e = rw (h.root_is, h.reads_are, e) refl

no_state : (bytes root : List ℕ) (reads : List (List ℕ)) (c : Cursor) (changes : List Change) (d : Cursor) → Begins bytes root reads c → changes_at c ≡ Ok (changes, d)
    → (fault : PartialFault) → partial_at d ≡ Err fault → recording_in bytes ≡ in_state (Err fault)
unfolding recording_in
no_state bytes root reads c changes d h changes_are (partial.frame fault) e = rw (h.root_is, h.reads_are, changes_are, e) refl
no_state bytes root reads c changes d h changes_are (partial.order place) e = rw (h.root_is, h.reads_are, changes_are, e) refl
no_state bytes root reads c changes d h changes_are (partial.clash digest) e = rw (h.root_is, h.reads_are, changes_are, e) refl

-- a refusal of the partial state, as it is passed on
pub state_refused : (bytes root : List ℕ) (reads : List (List ℕ)) (c : Cursor) (changes : List Change) (d : Cursor) → Begins bytes root reads c → changes_at c ≡ Ok (changes, d)
    → (error : PartialError) → texts.IsRefused error (partial_at d) → IsRefused (passed error) (recording_in bytes)
state_refused bytes root reads c changes d h changes_are (errors.Frame error) e = no_state bytes root reads c changes d h changes_are (partial.frame (fault_of error)) e
state_refused bytes root reads c changes d h changes_are (errors.Order place) e = no_state bytes root reads c changes d h changes_are (partial.order place) e
state_refused bytes root reads c changes d h changes_are (errors.Clash digest) e = no_state bytes root reads c changes d h changes_are (partial.clash digest.0) e
state_refused bytes root reads c changes d h changes_are errors.NoMemory e = tt

module _ (bytes root : List ℕ) (reads : List (List ℕ)) (c : Cursor) (changes : Changes) (d : Cursor) (state : List (List ℕ)) (f : Cursor) (h : Begins bytes root reads c) (changes_are : changes_at c ≡ Ok (entries changes, d)) (state_is : partial_at d ≡ Ok (state, f)) where
  up_to_end : (last : Recording) → last ≡ record { root = root; reads = reads; changes = from_sorted (entries changes); state = state } → recording_in bytes ≡ in_frame (end_of last f)
  unfolding recording_in
  up_to_end last is = rw (is, h.root_is, h.reads_are, changes_are, state_is) refl

  whole : Recording
  whole = record { root = root; reads = reads; changes = changes; state = state }

  told : recording_in bytes ≡ in_frame (end_of whole f)
  unfolding whole
  told = up_to_end whole (λ i. record { root = root; reads = reads; changes = sym (from_sorted-entries changes) i; state = state })

  pub left_over : (fault : FrameFault) → end_of {X = Unit {0}} tt f ≡ Err fault → recording_in bytes ≡ Err (frame fault)
  left_over fault e = told ∙ ap in_frame (end_fault whole f fault e)

  pub all_read : end_of {X = Unit {0}} tt f ≡ Ok (tt {0}) → recording_in bytes ≡ Ok (record { root = root; reads = reads; changes = changes; state = state })
  unfolding whole
  all_read e = told ∙ ap in_frame (end_reached whole f e)

-- ---- whole answers

-- a refusal that a `?` passed on
pub answers_refused : (bytes : List ℕ) (result : Result Proof ProofError) (error : ProofError) → IsErrAnd result (λ given. given ≡ error) → IsRefused error (recording_in bytes) → AnswersRecording result bytes
answers_refused bytes result error is h = passed_on (λ r. AnswersRecording r bytes) result error is h

pub spelled_by : (bytes : List ℕ) (r : Recording) → AreBytes bytes → recording_in bytes ≡ Ok r → bytes ≡ spelled_recording r
spelled_by bytes r small e = (subst (λ read. IfOk read (λ r. IsRecording r × NoClash r.state × (bytes ≡ spelled_recording r))) e (recording_in-found bytes small).given).2

-- ---- what a recording is made of

pub recorded : (root : List ℕ) (reads : List (List ℕ)) (batch : ChangeMap) (state : List (List ℕ)) → AreBytes root × (length root ≡ digest_width) → AreReads reads → IsChangeMap batch → IsPartial state → IsRecording (record { root = root; reads = reads; changes = batch.changes; state = state })
recorded root reads batch state is_root are_reads are_changes is_state = record {
  root = is_root;
  few_reads = are_reads.few;
  each_read = are_reads.each;
  changes = record { each = are_changes.each; few = omega (arith, are_changes.few, are_changes.bounded) };
  state = is_state;
}
