use Rattle.std.proofs.Common.{Err, sym, ap}
use Rattle.std.specs.Prelude.{codes, ◌++◌}
use Rattle.count_model.specs.Loads.{tell_usage}
use Rattle.output_model.specs.Ends.{line_of}
use Rattle.output_model.specs.Readings.{usage_text}
use Rattle.shard_cmd.proofs.Answered.{appended, no_state_at, reads_not_live}
use Rattle.shard_cmd.proofs.readings.read_usage.Goals as goal

pub returns-in-Err-NotLive : goal.returns-in-Err-NotLive
returns-in-Err-NotLive g c = λ limits forks is.
    let none = no_state_at forks c.args.shard.now.forks.tree c.args.id.now.0 is.of.tree ((c.in-Err-NotLive.ensures.not_live c.requires).0 (ap Err c.in-Err-NotLive.field-0-is)) in
    rw c.gathered-in-Err-NotLive.ensures (reads_not_live g.N.Texts.store g.N.Nodes.count_of limits forks (tell_usage c.args.id.now.0) c.args.shard.now c.usage.new.self c.args.replies.now.bytes _ (line_of (codes "usage refused not-live")) _ c.put.result is
    (rw c.in-Err-NotLive.field-0-is at c.in-Err-NotLive.ensures.left)
    (ap (λ o. line_of (codes "usage " ++ usage_text o)) (sym none))
    (appended c.args.replies.now.bytes _ (line_of (codes "usage refused not-live")) c.put.result c.put.ensures.written))
