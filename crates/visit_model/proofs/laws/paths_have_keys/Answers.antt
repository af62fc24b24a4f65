use Rattle.visit_model.proofs.RisingRows.{nibbles-key_of, AreBytes-key_of}
use Rattle.visit_model.proofs.laws.paths_have_keys.Goals as goal

pub returns-clause-same : goal.returns-clause-same
returns-clause-same c = nibbles-key_of

pub returns-clause-bytes : goal.returns-clause-bytes
returns-clause-bytes c = AreBytes-key_of
