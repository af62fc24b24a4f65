use Rattle.record_model.proofs.Nodes.{shape_found, shape_only}
use Rattle.record_model.proofs.laws.shapes_are_tested.Goals as goal

pub returns : goal.returns
returns c = λ n. (shape_found n, shape_only n)
