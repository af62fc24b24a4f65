use Rattle.record_model.proofs.PackedPaths.{path_in-found, path_in-only}
use Rattle.record_model.proofs.laws.paths_are_read_exactly.Goals as goal

pub returns-clause-found : goal.returns-clause-found
returns-clause-found c = path_in-found

pub returns-clause-only : goal.returns-clause-only
returns-clause-only c = path_in-only
