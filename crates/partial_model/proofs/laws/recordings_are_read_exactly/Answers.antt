use Rattle.partial_model.proofs.Recording.{recording_in-found, recording_in-only}
use Rattle.partial_model.proofs.laws.recordings_are_read_exactly.Goals as goal

pub returns-clause-found : goal.returns-clause-found
returns-clause-found c = λ bytes small. (recording_in-found bytes small).given

pub returns-clause-only : goal.returns-clause-only
returns-clause-only c = recording_in-only
