use Rattle.std.proofs.Common.{rules, ◌≡◌, ◌<◌, None}
use Rattle.std.specs.Option.{option_copied}
use Rattle.std.specs.FinMap.{entries}
use Rattle.partial_model.specs.Recording.{change_at, changes_from}
use Rattle.partial_state.proofs.Refusals.{refused_reads}
use Rattle.partial_state.proofs.Batches.{KeepsBatch-init, KeepsBatch-more, ReadsBatch-all, ReadsBatch-fault}
use Rattle.partial_state.proofs.reading.read_batch.Goals as goal

pub loop-init : goal.loop-init
loop-init c = KeepsBatch-init c.args.reader.now c.args.count c.new-changes.result c.new-changes.ensures.changes c.new-changes.ensures.most

pub returns-in_err-key-clause-read : goal.returns-in_err-key-clause-read
returns-in_err-key-clause-read c =
    let more : c.loop.counter < c.args.count = search rules in
    refused_reads _ c.from_residual.result c.in_err-key.field-0.0 c.args.reader.now c.read_change.new.reader (changes_from c.args.count None) (change_at (option_copied c.loop.earlier) c.loop.reader) c.from_residual.ensures.1
    (ReadsBatch-fault c.args.reader.now c.loop.reader c.args.count (entries c.loop.changes.changes) c.loop.counter (option_copied c.loop.earlier) more c.loop.invariant.reads) c.in_err-key.ensures.read

pub loop-preserved : goal.loop-preserved
loop-preserved c =
    let more : c.loop.counter < c.args.count = search rules in
    KeepsBatch-more c.args.reader.now c.loop.reader c.read_change.new.reader c.args.count c.loop.changes c.put_change.new.changes c.loop.counter (option_copied c.loop.earlier) c.in_ok-key.key.now (option_copied c.in_ok-key.value) more c.loop.invariant
    c.in_ok-key.ensures.read c.in_ok-key.ensures.above c.in_ok-put_change.ensures.ok

pub returns-clause-read : goal.returns-clause-read
returns-clause-read c =
    let all : c.args.count ≡ c.loop.counter = search rules in
    ReadsBatch-all c.args.reader.now c.loop.reader c.args.count (entries c.loop.changes.changes) c.loop.counter (option_copied c.loop.earlier) all c.loop.invariant.reads
