use Rattle.std.proofs.Common.{ℕ, List, Err, ap}
use Rattle.std.specs.Prelude.{codes, ◌++◌}
use Rattle.output_model.specs.Ends.{line_of}
use Rattle.shard_cmd.proofs.Answered.{appended, put_answers, same_not_live, same_told, yes_is, no_is}
use Rattle.shard_cmd.proofs.readings.read_same.Goals as goal

pub returns-in-Ok-true-clause-reply : goal.returns-in-Ok-true-clause-reply
returns-in-Ok-true-clause-reply g c = λ limits forks is.
    let told = same_told forks c.args.shard.now.forks.tree c.args.a.now.0 c.args.b.now.0 (codes "yes") is.of.tree (λ h. absurd (cc ((c.in-Ok-true.ensures.not_live c.requires).1 h)))
    (λ first second p q. yes_is first second c.in-Ok-true.field-0 c.in-Ok-true.field-0-test (c.in-Ok-true.ensures.states forks first second is.of p q)) in
    rw c.gathered.ensures (put_answers c.args.replies.now.bytes _ (line_of (codes "same yes")) _ c.put.result (ap (λ (word : List ℕ). line_of (codes "same " ++ word)) told)
    (appended c.args.replies.now.bytes _ (line_of (codes "same yes")) c.put.result c.put.ensures.written))

pub returns-in-Ok-false-clause-reply : goal.returns-in-Ok-false-clause-reply
returns-in-Ok-false-clause-reply g c = λ limits forks is.
    let told = same_told forks c.args.shard.now.forks.tree c.args.a.now.0 c.args.b.now.0 (codes "no") is.of.tree (λ h. absurd (cc ((c.in-Ok-false.ensures.not_live c.requires).1 h)))
    (λ first second p q. no_is first second c.in-Ok-false.field-0 c.in-Ok-false.field-0-test (c.in-Ok-false.ensures.states forks first second is.of p q)) in
    rw c.gathered-in-Ok-false.ensures (put_answers c.args.replies.now.bytes _ (line_of (codes "same no")) _ c.put-in-Ok-false.result (ap (λ (word : List ℕ). line_of (codes "same " ++ word)) told)
    (appended c.args.replies.now.bytes _ (line_of (codes "same no")) c.put-in-Ok-false.result c.put-in-Ok-false.ensures.written))

pub returns-in-Err-NotLive-clause-reply : goal.returns-in-Err-NotLive-clause-reply
returns-in-Err-NotLive-clause-reply g c = λ limits forks is.
    let told = same_not_live forks c.args.shard.now.forks.tree c.args.a.now.0 c.args.b.now.0 is.of.tree ((c.in-Err-NotLive.ensures.not_live c.requires).0 (ap Err c.in-Err-NotLive.field-0-is)) in
    rw c.gathered-in-Err-NotLive.ensures (put_answers c.args.replies.now.bytes _ (line_of (codes "same refused not-live")) _ c.put-in-Err-NotLive.result (ap (λ (word : List ℕ). line_of (codes "same " ++ word)) told)
    (appended c.args.replies.now.bytes _ (line_of (codes "same refused not-live")) c.put-in-Err-NotLive.result c.put-in-Err-NotLive.ensures.written))
