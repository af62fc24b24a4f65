use Rattle.shard_cmd.proofs.script.tell.Goals as goal

pub returns-then-quiet : goal.returns-then-quiet
returns-then-quiet g c = λ forks is opened. rw c.if-quiet.true (c.step_quietly.ensures forks c.args.replies.now.bytes is opened)
