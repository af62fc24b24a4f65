use Rattle.std.proofs.Common.{Err, ap}
use Rattle.output_model.specs.Ends.{not_live}
use Rattle.shard_cmd.specs.declared.status.Status.TheVariants.{Refused}
use Rattle.shard_cmd.proofs.Answered.{appended, no_state_at}
use Rattle.shard_cmd.proofs.Proving.{held-at, puts_unless, recorded-live, recorded-refused}
use Rattle.shard_cmd.proofs.prove.answer_prove.Goals as goal

pub record-requires : goal.record-requires
record-requires g c =
    let forks = c.requires.going.1 in
    let is = c.requires.going.2 in
    let there = held-at g.N.Texts.store g.N.Nodes.count_of forks c.args.shard.now c.args.id.now.0 c.in-Ok.root.0 is.of (c.in-Ok.ensures.value forks is.of) in
    record { held = (there.0, there.2) }

pub returns-in-Ok : goal.returns-in-Ok
returns-in-Ok g c = λ limits forks is.
    let there = held-at g.N.Texts.store g.N.Nodes.count_of forks c.args.shard.now c.args.id.now.0 c.in-Ok.root.0 is.of (c.in-Ok.ensures.value forks is.of) in
    recorded-live g.N.Texts.store g.N.Nodes.count_of g.met.N.Texts.alike_texts g.met.N.Nodes.alike_counts limits forks c.args.id.now.0 c.args.ops.reads c.args.ops.batch.changes c.args.shard.now c.record.new.shard c.args.replies.now.bytes c.record.new.replies.bytes c.record.result there.0 there.1 is (c.record.ensures there.0 there.2)

pub returns-in-Err-NotLive : goal.returns-in-Err-NotLive
returns-in-Err-NotLive g c = λ limits forks is.
    let none = no_state_at forks c.args.shard.now.forks.tree c.args.id.now.0 is.of.tree ((c.in-Err-NotLive.ensures.not_live is.going).0 (ap Err c.in-Err-NotLive.field-0-is)) in
    recorded-refused g.N.Texts.store g.N.Nodes.count_of g.met.N.Texts.alike_texts g.met.N.Nodes.alike_counts limits forks c.args.id.now.0 c.args.ops.reads c.args.ops.batch.changes c.args.shard.now c.args.replies.now.bytes _ c.unless_short.result none is
    (puts_unless c.args.replies.now.bytes _ not_live.bytes Refused c.unless_short.result c.put.result (appended c.args.replies.now.bytes _ not_live.bytes c.put.result c.put.ensures.written) c.unless_short.ensures.ok c.unless_short.ensures.err)
