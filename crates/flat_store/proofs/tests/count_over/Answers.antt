use Rattle.flat_store.proofs.Together.{together-same}
use Rattle.flat_store.proofs.tests.count_over.Goals as goal

pub pairs_over-requires-clause-blocks : goal.pairs_over-requires-clause-blocks
pairs_over-requires-clause-blocks c = together-same _ _ c.requires.one
