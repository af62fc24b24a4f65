use Rattle.shard_cmd.specs.Ends.{run_limits}
use Rattle.shard_cmd.proofs.history.step.Goals as goal

pub returns-in-Some : goal.returns-in-Some
returns-in-Some g c = λ forks is opened. rw c.in-Some.is (c.step_inside.ensures (run_limits c.args.limits.now) forks is (rw c.in-Some.is at opened))
