use Rattle.count_model.proofs.Live.{digests-counted, live-of_state, measured-le, texts-counted}
use Rattle.count_model.proofs.laws.texts_of_live_blocks_are_counted.Goals as goal

pub returns-clause-texts : goal.returns-clause-texts
returns-clause-texts c = λ forks t is. texts-counted forks is t

pub returns-clause-digests : goal.returns-clause-digests
returns-clause-digests c = λ forks digest is. digests-counted forks is digest

pub returns-clause-states : goal.returns-clause-states
returns-clause-states c = λ forks id t state is. live-of_state forks id t state

pub returns-clause-most : goal.returns-clause-most
returns-clause-most c = λ measure forks id state is. measured-le forks is measure id state
