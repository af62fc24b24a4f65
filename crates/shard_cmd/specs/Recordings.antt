-- What is told of bytes that are no recording, and of a reply that was not put together.
use Rattle.std.specs.Prelude.{Option, None, Some, Result, Ok, Err}
use Rattle.std.specs.declared.alloc.AllocError.{AllocError}
use Rattle.partial_model.specs.Recording.{RecordingFault, frame, head, order, clash}
use Rattle.base_core.specs.Reading.{fault_of}
use Rattle.partial_state.specs.declared.proof_error.ProofError.{ProofError}
use Rattle.partial_state.specs.declared.proof_error.ProofError.TheVariants.{Frame, Head, Order, Clash, NoMemory}
use Rattle.shard_cmd.specs.declared.status.Status.{Status}
use Rattle.shard_cmd.specs.declared.status.Status.TheVariants as status

-- what is wrong with the bytes, unless memory failed
abbrev pub fault_told : ProofError → Option RecordingFault
fault_told (Frame error) = Some (frame (fault_of error))
fault_told (Head at) = Some (head at)
fault_told (Order place) = Some (order place)
fault_told (Clash digest) = Some (clash digest.0)
fault_told NoMemory = None

abbrev pub status_of : {X : Type 0} → Result X AllocError → Result X Status
status_of (Ok reply) = Ok reply
status_of (Err error) = Err status.NoMemory
