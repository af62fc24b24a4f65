use Rattle.count_model.specs.Counts.{of_digest}
use Rattle.count_model.proofs.Counted.{fall-head, rise-head}
use Rattle.count_model.proofs.Told.{fall-told, rise-told}
use Rattle.count_model.proofs.laws.rises_and_falls_are_gains_and_losses.Goals as goal

pub returns-clause-gain : goal.returns-clause-gain
returns-clause-gain c = λ forks id digest. rise-told (of_digest digest) forks id

pub returns-clause-loss : goal.returns-clause-loss
returns-clause-loss c = λ forks id digest. fall-told (of_digest digest) forks id

pub returns-clause-head : goal.returns-clause-head
returns-clause-head c = λ measure forks. (rise-head measure forks, fall-head measure forks)
