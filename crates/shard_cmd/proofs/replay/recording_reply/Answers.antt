use Rattle.std.proofs.Common.{Result, IfOk, sym, ap, subst}
use Rattle.partial_model.specs.Recording.{Recording, RecordingFault, recording_in}
use Rattle.text_store.specs.PartialStates.{PartialState}
use Rattle.output_model.specs.Replay.{IsByReading}
use Rattle.shard_cmd.specs.Replies.{IsOneReply}
use Rattle.shard_cmd.proofs.Recordings.{unread-reply}
use Rattle.shard_cmd.proofs.replay.recording_reply.Goals as goal

pub replay_reply-requires : goal.replay_reply-requires
replay_reply-requires c = ap (λ (s : PartialState). s.kept) c.in-Ok.ensures.answer.1.unmarked

pub returns-in-Ok-clause-reply : goal.returns-in-Ok-clause-reply
returns-in-Ok-clause-reply c = subst (λ (read : Result Recording RecordingFault). IfOk c.replay_reply.result (IsOneReply (IsByReading read))) (sym c.in-Ok.ensures.answer.0) c.replay_reply.ensures.reply

pub returns-in-Err-clause-reply : goal.returns-in-Err-clause-reply
returns-in-Err-clause-reply c = unread-reply c.in-Err.error (recording_in c.args.bytes.now) c.unread_reply.result c.in-Err.ensures.answer c.unread_reply.ensures.reply
