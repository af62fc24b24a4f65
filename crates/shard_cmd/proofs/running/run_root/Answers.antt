use Rattle.shard_cmd.specs.Ends.{run_limits}
use Rattle.shard_cmd.proofs.Runs.{ends_with_reply}
use Rattle.shard_cmd.proofs.running.run_root.Goals as goal

pub returns-in-Ok-clause-output : goal.returns-in-Ok-clause-output
returns-in-Ok-clause-output g c = ends_with_reply (run_limits c.args.limits.now) _ _ _ c.in-Ok.reply _ _ c.in-Ok.ensures.reply c.as_slice.ensures c.finish.ensures.output
