use Rattle.recording_model.proofs.StateReads.{reads_visits-refusal, reads_visits-answers}
use Rattle.recording_model.proofs.laws.reads_over_state.Goals as goal

pub returns-clause-refusal : goal.returns-clause-refusal
returns-clause-refusal c = reads_visits-refusal

pub returns-clause-answers : goal.returns-clause-answers
returns-clause-answers c = reads_visits-answers
