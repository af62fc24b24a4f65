-- Refusals that are passed on from a part to what it is a part of.
use Rattle.std.proofs.Common.{◌≡◌, Result, Ok, Err, IsErrAnd, ◌∙◌}
use Rattle.partial_model.specs.Recording.{RecordingFault, ReadHead}
use Rattle.record_model.specs.Fields.{Cursor}
use Rattle.base_core.proofs.PassedOn.{passed_on}
use Rattle.partial_state.specs.declared.proof_error.ProofError.{ProofError}
use Rattle.partial_state.specs.declared.proof_error.ProofError.TheVariants.{Frame, Head, Order, Clash, NoMemory}
use Rattle.partial_state.specs.Recordings.{IsRefused, Reads}

-- a refusal of one reading is one of another that ends as it does
pub refused_alike : {X Y : Type 0} (error : ProofError) (one : Result X RecordingFault) (other : Result Y RecordingFault) → ((fault : RecordingFault) → one ≡ Err fault → other ≡ Err fault) → IsRefused error one → IsRefused error other
refused_alike NoMemory one other alike h = tt
refused_alike (Frame error) one other alike h = alike _ h
refused_alike (Head at) one other alike h = alike _ h
refused_alike (Order place) one other alike h = alike _ h
refused_alike (Clash digest) one other alike h = alike _ h

-- the same of a refusal that a `?` passed on
pub refused_reads : {X Y Z : Type 0} (view : X → Y) (result : Result X ProofError) (error : ProofError) (old new : Cursor) (read : Cursor → ReadHead Y) (part : Result Z RecordingFault)
    → IsErrAnd result (λ given. given ≡ error) → ((fault : RecordingFault) → part ≡ Err fault → read old ≡ Err fault) → IsRefused error part → Reads view result old new read
refused_reads view result error old new read part is alike h = passed_on (λ r. Reads view r old new read) result error is (refused_alike error part (read old) alike h)

-- what is read behind a first part is what is read in all
pub reads_onward : {X Y : Type 0} (view : X → Y) (result : Result X ProofError) (c d new : Cursor) (whole part : Cursor → ReadHead Y) → whole c ≡ part d → Reads view result d new part → Reads view result c new whole
reads_onward view (Ok x) c d new whole part e h = e ∙ h
reads_onward view (Err error) c d new whole part e h = refused_alike error (part d) (whole c) (λ fault k. e ∙ k) h
