use Rattle.shard_cmd.proofs.Recordings.{replayed-reply, clash-reply, spare-reply}
use Rattle.shard_cmd.proofs.replay.replay_reply.Goals as goal

pub returns-in-Ok-clause-reply : goal.returns-in-Ok-clause-reply
returns-in-Ok-clause-reply c = replayed-reply c.args.proof.now c.in-Ok.replayed c.replayed_reply.result c.in-Ok.ensures.answer c.replayed_reply.ensures.root c.in-Ok.ensures.state c.in-Ok.ensures.sound c.in-Ok.ensures.exact c.replayed_reply.ensures.reply

pub returns-in-Err-Clash-clause-reply : goal.returns-in-Err-Clash-clause-reply
returns-in-Err-Clash-clause-reply c = clash-reply c.args.proof.now c.in-Err-Clash.digest _ _ c.clash_reply.result (rw c.in-Err-Clash.field-0-is at c.in-Err-Clash.ensures.answer) (rw c.in-Err-Clash.field-0-is at c.in-Err-Clash.ensures.state) c.clash_reply.ensures

pub returns-in-Err-Spare-clause-reply : goal.returns-in-Err-Spare-clause-reply
returns-in-Err-Spare-clause-reply c = spare-reply c.args.proof.now c.in-Err-Spare.place c.place_reply.result (rw c.in-Err-Spare.field-0-is at c.in-Err-Spare.ensures.answer) c.place_reply.ensures
