use Rattle.recording_model.proofs.Sound.{sound-answers, sound-places}
use Rattle.recording_model.proofs.laws.replays_are_sound.Goals as goal

pub returns-clause-answers : goal.returns-clause-answers
returns-clause-answers c = sound-answers

pub returns-clause-places : goal.returns-clause-places
returns-clause-places c = sound-places
