use Rattle.std.proofs.Common.{sym}
use Rattle.shard_cmd.specs.Ends.{run_limits}
use Rattle.shard_cmd.proofs.Replies.{replies_to}
use Rattle.shard_cmd.proofs.root.answer_root.Goals as goal

pub returns-in-Ok-end_reply-clause-reply : goal.returns-in-Ok-end_reply-clause-reply
returns-in-Ok-end_reply-clause-reply g c = replies_to (g.S.Source.left c.args.source.now) (run_limits c.args.limits.now) _ _ c.in-Ok-end_reply.reply (c.in-Ok.ensures.end (run_limits c.args.limits.now) (sym c.new-pairs.ensures.most)) c.in-Ok-end_reply.ensures.reply
