use Rattle.std.proofs.Common.{◌≡◌, ◌++◌, ℕ, List, subst}
use Rattle.std.specs.Prelude.{OnOk}
use Rattle.shard_cmd.proofs.Recordings.{root-line}
use Rattle.shard_cmd.proofs.recording_replies.put_root.Goals as goal

pub returns-clause-line : goal.returns-clause-line
returns-clause-line c = subst (λ (line : List ℕ). OnOk c.put_value.result (c.put_value.new.replies.bytes ≡ c.args.lines.now.bytes ++ line)) (root-line c.args.root.now c.requires) c.put_value.ensures
