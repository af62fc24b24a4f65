use Rattle.output_model.proofs.Recorded.{carried-out, clashed-told}
use Rattle.output_model.proofs.laws.recordings_of_a_state_are_replayed.Goals as goal

pub returns-clause-output : goal.returns-clause-output
returns-clause-output c = λ state reads changes output is bytes are apart clear replays. carried-out state reads changes is bytes are apart output clear replays

pub returns-clause-clash : goal.returns-clause-clash
returns-clause-clash c = λ state reads changes digest output is bytes are apart clash replays. clashed-told state reads changes is bytes are apart output digest clash replays
