use Rattle.shard_cmd.proofs.Replies.{built_reply}
use Rattle.shard_cmd.proofs.root.end_reply.Goals as goal

pub returns-in_ok-build-in-Whole-clause-reply : goal.returns-in_ok-build-in-Whole-clause-reply
returns-in_ok-build-in-Whole-clause-reply c = rw c.in-Whole.is (built_reply _ _ _ c.root_reply.result c.in_ok-build-in-Whole.ensures.root c.in_ok-build-in-Whole.ensures.usage c.root_reply.ensures.line c.root_reply.ensures.done)
