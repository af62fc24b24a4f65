use Rattle.std.proofs.Common.{Result, IfOk, IfSome, sym, subst}
use Rattle.output_model.specs.Replay.{IsReplayOutput}
use Rattle.shard_cmd.specs.Replies.{IsOneReply}
use Rattle.shard_cmd.specs.declared.reply.Reply.{Reply}
use Rattle.shard_cmd.specs.declared.status.Status.{Status}
use Rattle.shard_cmd.proofs.Recordings.{replies-whole, replies-long}
use Rattle.shard_cmd.proofs.replay.answer_replay.Goals as goal

pub returns-in-Ok-clause-reply : goal.returns-in-Ok-clause-reply
returns-in-Ok-clause-reply g c =
    subst (λ (r : Result Reply Status). IfSome (g.S.Source.left c.args.source.now) (λ input. IfOk r (IsOneReply (IsReplayOutput input)))) (sym c.answered.ensures)
    (replies-whole c.new-feed.result (g.S.Source.left c.args.source.now) (g.S.Source.left c.all.new.source) _ c.recording_reply.result c.new-feed.ensures c.in-Ok.ensures.after.answer (rw c.as_slice.ensures at c.recording_reply.ensures.reply))

pub returns-in-Err-Short-clause-reply : goal.returns-in-Err-Short-clause-reply
returns-in-Err-Short-clause-reply g c =
    subst (λ (r : Result Reply Status). IfSome (g.S.Source.left c.args.source.now) (λ input. IfOk r (IsOneReply (IsReplayOutput input)))) (sym c.answered-in-Err-Short.ensures)
    (replies-long c.new-feed.result (g.S.Source.left c.args.source.now) (g.S.Source.left c.all.new.source) c.in-Err-Short.at c.syntax_reply.result c.new-feed.ensures (rw c.in-Err-Short.field-0-is at c.in-Err-Short.ensures.after.answer) c.syntax_reply.ensures)
