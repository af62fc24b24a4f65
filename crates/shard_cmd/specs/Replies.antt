-- What it is for a reply of a run to be the defined output.
use Rattle.std.specs.Prelude.{◌≡◌, Some}
use Rattle.output_model.specs.Ends.{Output}
use Rattle.shard_cmd.specs.declared.reply.Reply.{Reply}
use Rattle.shard_cmd.specs.Ends.{ending_of}

-- the reply is this output
pub record IsReply (output : Output) (reply : Reply) : Type 0 where
  pub bytes : reply.bytes ≡ output.bytes
  pub ending : ending_of reply.status ≡ Some output.ending

-- it is one of several that may be
pub record IsOneReply (IsOutput : Output → Type 0) (reply : Reply) : Type 0 where
  pub output : Output
  pub may_be : IsOutput output
  pub is : IsReply output reply
