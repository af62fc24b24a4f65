use Rattle.flat_store.proofs.Together.{together-same}
use Rattle.flat_store.proofs.tests.expect.Goals as goal

pub get-requires : goal.get-requires
get-requires g c = together-same c.args.forks.now.tree c.args.flat.now c.requires
