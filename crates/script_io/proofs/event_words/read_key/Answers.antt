use Rattle.script_model.specs.Spellings.{key_of}
use Rattle.script_io.proofs.event_words.read_key.Goals as goal

pub returns : goal.returns
unfolding key_of
returns c = c.read_hex.ensures
