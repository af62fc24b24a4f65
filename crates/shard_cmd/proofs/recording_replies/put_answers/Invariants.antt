use Rattle.std.proofs.Common.{◌≡◌, ◌++◌, drop}
use Rattle.output_model.specs.Replay.{read_lines}
use Rattle.shard_cmd.proofs.recording_replies.put_answers.Given as goal

abbrev pub invariant-loop-place : goal.invariant-loop-place
invariant-loop-place l = l.lines.bytes ++ read_lines (drop l.place l.fn.answers) ≡ l.fn.lines.bytes ++ read_lines l.fn.answers
