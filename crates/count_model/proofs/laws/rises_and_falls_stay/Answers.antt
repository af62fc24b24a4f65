use Rattle.count_model.proofs.Told.{sides-block, sides-move, sides-new}
use Rattle.count_model.proofs.laws.rises_and_falls_stay.Goals as goal

pub returns-clause-block : goal.returns-clause-block
returns-clause-block c = sides-block

pub returns-clause-new : goal.returns-clause-new
returns-clause-new c = sides-new

pub returns-clause-moved : goal.returns-clause-moved
returns-clause-moved c = sides-move
