use Rattle.script_io.specs.Meanings.{event}
use Rattle.shard_cmd.specs.Ends.{run_limits}
use Rattle.shard_cmd.proofs.Histories.{quiet_inside, quiet_outside}
use Rattle.shard_cmd.proofs.history.step_quietly.Goals as goal

pub returns-in-None : goal.returns-in-None
returns-in-None g c = λ forks before is opened. rw c.in-None.is (quiet_outside g.N.Texts.store g.N.Nodes.count_of (run_limits c.args.limits.now) forks (event c.args.asked) c.args.shard.now c.step_outside.new.shard _ _ before c.step_outside.result (event c.unread.result) c.unread.ensures.skips (c.step_outside.ensures forks is))

pub returns : goal.returns
returns g c = λ forks before is opened. rw c.in-Some.is (quiet_inside g.N.Texts.store g.N.Nodes.count_of (run_limits c.args.limits.now) forks (event c.args.asked) c.args.shard.now c.step_inside.new.shard _ _ before c.step_inside.result c.in-Some.block (c.step_inside.ensures (run_limits c.args.limits.now) forks is (rw c.in-Some.is at opened)))
