use Rattle.std.proofs.Common.{Err, sym, ap}
use Rattle.std.specs.Prelude.{codes, ◌++◌}
use Rattle.output_model.specs.Ends.{line_of}
use Rattle.output_model.specs.Readings.{read_text}
use Rattle.shard_cmd.proofs.Answered.{appended, no_state_at, put_answers}
use Rattle.shard_cmd.proofs.readings.read_flat.Goals as goal

pub returns-in-Err-NotLive-clause-reply : goal.returns-in-Err-NotLive-clause-reply
returns-in-Err-NotLive-clause-reply g c = λ limits forks is.
    let none = no_state_at forks c.args.shard.now.forks.tree c.args.id.now.0 is.of.tree ((c.in-Err-NotLive.ensures.not_live c.requires).0 (ap Err c.in-Err-NotLive.field-0-is)) in
    rw c.gathered-in-Err-NotLive.ensures (put_answers c.args.replies.now.bytes _ (line_of (codes "flat refused not-live")) _ c.put-in-Err-NotLive.result (ap (λ o. line_of (codes "flat " ++ read_text o c.args.key.now)) (sym none))
    (appended c.args.replies.now.bytes _ (line_of (codes "flat refused not-live")) c.put-in-Err-NotLive.result c.put-in-Err-NotLive.ensures.written))
