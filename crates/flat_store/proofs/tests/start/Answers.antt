use Rattle.flat_store.proofs.Together.{together-start}
use Rattle.flat_store.proofs.tests.start.Goals as goal

pub returns-clause-one : goal.returns-clause-one
returns-clause-one c = together-start _ _ c.in_ok-forks.ensures.tree c.in_ok-flat.ensures.state
