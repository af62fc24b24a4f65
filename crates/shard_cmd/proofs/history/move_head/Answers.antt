use Rattle.shard_cmd.proofs.Histories.{head_moves, head_stays}
use Rattle.shard_cmd.proofs.history.move_head.Goals as goal

pub returns-in-Ok : goal.returns-in-Ok
returns-in-Ok g c = λ limits forks is.
    rw c.gathered.ensures (head_moves g.N.Texts.store g.N.Nodes.count_of limits forks c.args.shard.now _ is c.in-Ok.ensures.limits c.args.id.now.0 c.args.replies.now.bytes _ c.in-Ok.moved c.put_moved.result
    (c.in-Ok.ensures.answer forks is.going is.of) (c.in-Ok.ensures.state forks is.going is.of) c.in-Ok.ensures.stops c.in-Ok.ensures.loads c.in-Ok.ensures.faults c.put_moved.ensures)

pub returns-in-Err-NotLive : goal.returns-in-Err-NotLive
returns-in-Err-NotLive g c = λ limits forks is.
    rw c.gathered-in-Err-NotLive.ensures (head_stays g.N.Texts.store g.N.Nodes.count_of limits forks c.args.shard.now _ is c.in-Err-NotLive.ensures.limits c.args.id.now.0 c.args.replies.now.bytes _ c.put_not_moved.result
    (rw c.in-Err-NotLive.field-0-is at (c.in-Err-NotLive.ensures.answer forks is.going is.of)) (rw c.in-Err-NotLive.field-0-is at (c.in-Err-NotLive.ensures.state forks is.going is.of)) (rw c.in-Err-NotLive.field-0-is at c.in-Err-NotLive.ensures.stops) c.in-Err-NotLive.ensures.loads
    (rw c.in-Err-NotLive.field-0-is at c.in-Err-NotLive.ensures.faults) c.put_not_moved.ensures)
