use Rattle.flat_store.proofs.Together.{together-none, together-same, together-start}
use Rattle.flat_store.proofs.tests.count_at_start.Goals as goal

pub pairs_at-requires-clause-blocks : goal.pairs_at-requires-clause-blocks
pairs_at-requires-clause-blocks c = together-same _ _ (together-start _ _ c.in_ok-forks.ensures.tree c.in_ok-flat.ensures.state)

pub pairs_at-requires-clause-few : goal.pairs_at-requires-clause-few
pairs_at-requires-clause-few c = λ _. together-none c.in_ok-forks.forks.tree c.in_ok-flat.flat c.in_ok-forks.ensures.tree c.in_ok-flat.ensures.head
