use Rattle.byte_model.proofs.Spellings.{spelled-same}
use Rattle.byte_model.proofs.laws.nodes_are_spelled_apart.Goals as goal

pub returns : goal.returns
returns c = spelled-same
