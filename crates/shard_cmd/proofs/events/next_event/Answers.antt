use Rattle.script_model.proofs.Asked.{asked-within}
use Rattle.shard_cmd.proofs.Stops.{stops_at_line}
use Rattle.shard_cmd.proofs.events.next_event.Goals as goal

pub returns-in-Err-clause-next : goal.returns-in-Err-clause-next
returns-in-Err-clause-next g c = rw c.from-in-Err.ensures (stops_at_line _ _ _ _ c.next.result c.in-Err.error c.in-Err.is c.next.follows.holds-at-none)

pub returns-in-Ok-clause-within : goal.returns-in-Ok-clause-within
returns-in-Ok-clause-within g c = asked-within _ _ c.in-Ok.ensures.ok
