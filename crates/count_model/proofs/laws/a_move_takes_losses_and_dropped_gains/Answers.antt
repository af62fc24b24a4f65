use Rattle.count_model.specs.Counts.{of_digest, of_text, taken_away}
use Rattle.count_model.proofs.Told.{counted-move}
use Rattle.count_model.proofs.laws.a_move_takes_losses_and_dropped_gains.Goals as goal

pub returns-clause-texts : goal.returns-clause-texts
unfolding taken_away
returns-clause-texts c = λ forks id t. counted-move (of_text t) forks id

pub returns-clause-digests : goal.returns-clause-digests
returns-clause-digests c = λ forks id digest. counted-move (of_digest digest) forks id
