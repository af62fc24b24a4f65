use Rattle.flat_store.proofs.Tables.{map-put}
use Rattle.flat_store.proofs.moves.put.Goals as goal

pub returns-clause-head : goal.returns-clause-head
returns-clause-head c = map-put _ _ c.into_bytes.result.items c.args.key c.args.value c.into_bytes.ensures c.in-Ok.ensures.updates.1 c.in-Ok.ensures.updates.3
