use Rattle.byte_model.proofs.Paths.{packed-same, length-packed}
use Rattle.byte_model.proofs.laws.paths_are_packed_apart.Goals as goal

pub returns-clause-apart : goal.returns-clause-apart
returns-clause-apart c = packed-same

pub returns-clause-count : goal.returns-clause-count
returns-clause-count c = length-packed
