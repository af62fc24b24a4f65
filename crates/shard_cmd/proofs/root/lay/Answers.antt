use Rattle.std.proofs.Common.{ap, ◌∙◌, Err}
use Rattle.script_io.specs.Meanings.{event}
use Rattle.shard_cmd.proofs.Puts.{event_answer, event_laid, not_long}
use Rattle.shard_cmd.proofs.root.lay.Goals as goal

pub returns-in-Ok-clause-lays : goal.returns-in-Ok-clause-lays
returns-in-Ok-clause-lays c =
    let laid = event_laid c.args.number _ _ c.args.asked _ _ c.put.result (ap event c.in-Set.is) c.requires record { refused = c.put.ensures.refused; taken = c.put.ensures.taken; ok = c.put.ensures.ok; err = c.put.ensures.err } in
    rw c.in-Ok.is at laid.ok

pub returns-in-Ok-clause-refused : goal.returns-in-Ok-clause-refused
returns-in-Ok-clause-refused c =
    let laid = event_laid c.args.number _ _ c.args.asked _ _ c.put.result (ap event c.in-Set.is) c.requires record { refused = c.put.ensures.refused; taken = c.put.ensures.taken; ok = c.put.ensures.ok; err = c.put.ensures.err } in
    rw ((rw c.in-Ok.is at laid.ok).0) tt

pub returns-in-Err-Full-clause-lays : goal.returns-in-Err-Full-clause-lays
returns-in-Err-Full-clause-lays c =
    let laid = event_laid c.args.number _ _ c.args.asked _ _ c.put.result (ap event c.in-Set.is) c.requires record { refused = c.put.ensures.refused; taken = c.put.ensures.taken; ok = c.put.ensures.ok; err = c.put.ensures.err } in
    laid.full (c.in-Err-Full.is ∙ ap Err c.in-Err-Full.field-0-is)

pub returns-in-Err-NoMemory-clause-refused : goal.returns-in-Err-NoMemory-clause-refused
returns-in-Err-NoMemory-clause-refused c =
    let laid = event_laid c.args.number _ _ c.args.asked _ _ c.put.result (ap event c.in-Set.is) c.requires record { refused = c.put.ensures.refused; taken = c.put.ensures.taken; ok = c.put.ensures.ok; err = c.put.ensures.err } in
    rw (laid.no_memory (c.in-Err-NoMemory.is ∙ ap Err c.in-Err-NoMemory.field-0-is)) tt

pub unreachable-requires : goal.unreachable-requires
unreachable-requires c =
    let answer = event_answer _ _ c.args.asked _ _ c.put.result (ap event c.in-Set.is) c.requires record { refused = c.put.ensures.refused; taken = c.put.ensures.taken; ok = c.put.ensures.ok; err = c.put.ensures.err } in
    (not_long _ _ _ _ _ answer c.in-Err-KeyLong.field-0-0).0 (c.in-Err-KeyLong.is ∙ ap Err c.in-Err-KeyLong.field-0-is)

pub unreachable-requires-in-Err-ValueLong : goal.unreachable-requires-in-Err-ValueLong
unreachable-requires-in-Err-ValueLong c =
    let answer = event_answer _ _ c.args.asked _ _ c.put.result (ap event c.in-Set.is) c.requires record { refused = c.put.ensures.refused; taken = c.put.ensures.taken; ok = c.put.ensures.ok; err = c.put.ensures.err } in
    (not_long _ _ _ _ _ answer c.in-Err-ValueLong.field-0-0).1 (c.in-Err-ValueLong.is ∙ ap Err c.in-Err-ValueLong.field-0-is)
