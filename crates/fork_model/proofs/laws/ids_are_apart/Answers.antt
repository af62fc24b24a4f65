use Rattle.fork_model.proofs.Partition.{ids_apart}
use Rattle.fork_model.proofs.laws.ids_are_apart.Goals as goal

pub returns : goal.returns
returns c = ids_apart
