use Rattle.std.proofs.Common.{rules, ◌≤◌, length}
use Rattle.std.specs.Option.{option_copied}
use Rattle.shard_cmd.proofs.Recordings.{answers-more, answers-all}
use Rattle.shard_cmd.proofs.recording_replies.put_answers.Goals as goal

pub loop-place-preserved : goal.loop-place-preserved
loop-place-preserved c = answers-more c.args.answers.now c.loop-place.place (option_copied c.at.result) c.loop-place.lines.bytes c.put_answer.new.lines.bytes _ c.at.ensures c.loop-place.invariant c.in_ok-put_answer.ensures

pub returns : goal.returns
returns c =
    let past : length c.args.answers.now ≤ c.loop-place.place = search rules in
    answers-all c.args.answers.now c.loop-place.place c.loop-place.lines.bytes _ past c.loop-place.invariant
