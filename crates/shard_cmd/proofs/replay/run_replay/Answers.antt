use Rattle.shard_cmd.proofs.Runs.{ends_with_one, has_one_reply, failed_one, has_failed}
use Rattle.shard_cmd.proofs.replay.run_replay.Goals as goal

pub returns-in-Ok-clause-output : goal.returns-in-Ok-clause-output
returns-in-Ok-clause-output g c = ends_with_one _ _ _ c.in-Ok.reply _ _ c.in-Ok.ensures.reply c.as_slice.ensures c.finish.ensures.output

pub returns-in-Ok-clause-status : goal.returns-in-Ok-clause-status
returns-in-Ok-clause-status g c = has_one_reply (g.S.Source.left c.args.source.now) c.in-Ok.reply c.finish.result _ _ c.in-Ok.ensures.reply c.finish.ensures.status

pub returns-in-Err-clause-output : goal.returns-in-Err-clause-output
returns-in-Err-clause-output g c = failed_one (g.S.Source.left c.args.source.now) (g.K.Sink.written c.args.sink.now) c.in-Err.status c.in-Err.ensures.failed

pub returns-in-Err-clause-status : goal.returns-in-Err-clause-status
returns-in-Err-clause-status g c = has_failed (g.S.Source.left c.args.source.now) c.in-Err.status c.in-Err.ensures.failed
