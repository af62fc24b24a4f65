use Rattle.std.proofs.Common.{Err, ap}
use Rattle.output_model.specs.Ends.{not_live}
use Rattle.shard_cmd.proofs.Answered.{appended, no_state_at}
use Rattle.shard_cmd.proofs.Requests.{gets_live, gets_refused}
use Rattle.shard_cmd.proofs.get.answer_get.Goals as goal

pub returns-in-Ok : goal.returns-in-Ok
returns-in-Ok g c = λ limits forks is. rw c.by_halt.ensures (gets_live g.N.Texts.store g.N.Nodes.count_of limits forks c.args.id.now.0 c.args.key.now _ c.args.shard.now c.read_both.new.shard c.args.replies.now.bytes c.read_both.new.replies.bytes c.read_both.result (c.in-Ok.ensures.value forks is.of) (c.read_both.ensures limits forks is))

pub returns-in-Err-NotLive : goal.returns-in-Err-NotLive
returns-in-Err-NotLive g c = λ limits forks is.
    let none = no_state_at forks c.args.shard.now.forks.tree c.args.id.now.0 is.of.tree ((c.in-Err-NotLive.ensures.not_live c.requires.going).0 (ap Err c.in-Err-NotLive.field-0-is)) in
    rw (c.by_halt-in-Err-NotLive.ensures, c.gathered.ensures) (gets_refused g.N.Texts.store g.N.Nodes.count_of limits forks c.args.id.now.0 c.args.key.now c.args.shard.now c.args.replies.now.bytes _ c.put.result none is (appended c.args.replies.now.bytes _ not_live.bytes c.put.result c.put.ensures.written))
