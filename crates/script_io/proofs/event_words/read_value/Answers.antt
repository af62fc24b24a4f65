use Rattle.script_model.specs.Spellings.{value_of}
use Rattle.script_io.proofs.event_words.read_value.Goals as goal

pub returns : goal.returns
unfolding value_of
returns c = c.read_hex.ensures
