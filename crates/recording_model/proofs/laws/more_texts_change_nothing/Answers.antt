use Rattle.recording_model.proofs.MoreBatches.{replay-more}
use Rattle.recording_model.proofs.laws.more_texts_change_nothing.Goals as goal

pub returns : goal.returns
returns c = λ table full root reads changes has. replay-more table full has root reads changes
