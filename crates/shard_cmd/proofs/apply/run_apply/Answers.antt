use Rattle.std.proofs.Common.{ap}
use Rattle.count_model.specs.Loads.{no_texts}
use Rattle.output_model.specs.Apply.{apply_script, nothing_more}
use Rattle.output_model.specs.Scripts.{script_outcome}
use Rattle.output_model.specs.Output.{live_behind}
use Rattle.shard_cmd.specs.Ends.{run_limits}
use Rattle.shard_cmd.specs.declared.status.Status.TheVariants.{NoMemory}
use Rattle.shard_cmd.specs.HandedBack.{EndsRun}
use Rattle.shard_cmd.specs.Histories.{IsGoing}
use Rattle.shard_cmd.specs.Sending.{EndsHistory}
use Rattle.shard_cmd.proofs.Runs.{by_input, each_input}
use Rattle.shard_cmd.proofs.HistoryRuns.{history_ends, never_begun}
use Rattle.shard_cmd.proofs.Finished.{finished_done, finished_usage, sink_counts, source_finished, store_finished}
use Rattle.shard_cmd.proofs.apply.run_apply.Goals as goal

pub read_history-ended-requires-clause-going : goal.read_history-ended-requires-clause-going
read_history-ended-requires-clause-going g c = record { of = c.in-Ok.ensures.blocks; going = c.in-Ok.ensures.going; limits_are = ap run_limits c.in-Ok.ensures.limits }

pub returns-clause-ends : goal.returns-clause-ends
returns-clause-ends g c =
    by_input (g.S.Source.left c.args.source.now)
    (λ input. EndsHistory (run_limits c.args.limits.now) nothing_more no_texts (script_outcome (apply_script (run_limits c.args.limits.now)) input) (IsGoing g.N.Texts.store g.N.Nodes.count_of (run_limits c.args.limits.now) c.read_history-ended.new.shard) (g.K.Sink.written c.args.sink.now) (g.K.Sink.written c.read_history-ended.new.sink) c.read_history-ended.new.replies.bytes (record { before = g.N.Texts.store.loads c.in-Ok.shard.nodes; now = g.N.Texts.store.loads c.read_history-ended.new.shard.nodes }) c.read_history-ended.result)
    (λ input. EndsRun g.N.Texts.store g.N.Nodes.count_of (live_behind (script_outcome (apply_script (run_limits c.args.limits.now)) input)) c.args.nodes c.into_nodes.result (g.K.Sink.written c.args.sink.now) (g.K.Sink.written c.finish_history-status.new.sink) c.finish_history-status.result)
    (λ input h. rw (c.into_nodes.ensures, ← c.in-Ok.ensures.nodes) (history_ends g.N.Texts.store g.N.Nodes.count_of (run_limits c.args.limits.now) c.read_history-ended.new.shard (script_outcome (apply_script (run_limits c.args.limits.now)) input) c.in-Ok.shard.nodes (g.K.Sink.written c.args.sink.now) (g.K.Sink.written c.read_history-ended.new.sink) (g.K.Sink.written c.finish_history-status.new.sink) c.read_history-ended.new.replies.bytes c.read_history-ended.result c.finish_history-status.result (g.K.Sink.faults c.read_history-ended.new.sink) (g.K.Sink.faults c.finish_history-status.new.sink) h (rw c.bytes.ensures at c.finish_history-status.ensures)))
    (c.read_history-ended.ensures.end nothing_more no_texts)

pub returns-clause-nothing_left : goal.returns-clause-nothing_left
returns-clause-nothing_left g c = λ done. c.read_history-ended.ensures.nothing_left (finished_done c.read_history-ended.result c.finish_history-status.result c.read_history-ended.new.replies.bytes (g.K.Sink.written c.read_history-ended.new.sink) (g.K.Sink.written c.finish_history-status.new.sink) (g.K.Sink.faults c.read_history-ended.new.sink) (g.K.Sink.faults c.finish_history-status.new.sink) (rw c.bytes.ensures at c.finish_history-status.ensures) done)

pub returns-clause-no_usage : goal.returns-clause-no_usage
returns-clause-no_usage g c = finished_usage c.read_history-ended.result c.finish_history-status.result c.read_history-ended.new.replies.bytes (g.K.Sink.written c.read_history-ended.new.sink) (g.K.Sink.written c.finish_history-status.new.sink) (g.K.Sink.faults c.read_history-ended.new.sink) (g.K.Sink.faults c.finish_history-status.new.sink) (rw c.bytes.ensures at c.finish_history-status.ensures) c.read_history-ended.ensures.no_usage

pub returns-clause-source_faults : goal.returns-clause-source_faults
returns-clause-source_faults g c = source_finished c.read_history-ended.result c.finish_history-status.result c.read_history-ended.new.replies.bytes (g.K.Sink.written c.read_history-ended.new.sink) (g.K.Sink.written c.finish_history-status.new.sink) (g.K.Sink.faults c.read_history-ended.new.sink) (g.K.Sink.faults c.finish_history-status.new.sink) (g.S.Source.faults c.args.source.now) (g.S.Source.faults c.read_history-ended.new.source) (rw c.bytes.ensures at c.finish_history-status.ensures) c.read_history-ended.ensures.read

pub returns-clause-sink_faults : goal.returns-clause-sink_faults
returns-clause-sink_faults g c = sink_counts c.read_history-ended.result c.finish_history-status.result c.read_history-ended.new.replies.bytes (g.K.Sink.written c.read_history-ended.new.sink) (g.K.Sink.written c.finish_history-status.new.sink) (g.K.Sink.faults c.args.sink.now) (g.K.Sink.faults c.read_history-ended.new.sink) (g.K.Sink.faults c.finish_history-status.new.sink) c.read_history-ended.ensures.sent (rw c.bytes.ensures at c.finish_history-status.ensures)

pub returns-clause-store_faults : goal.returns-clause-store_faults
returns-clause-store_faults g c =
    rw (c.into_nodes.ensures, ← c.in-Ok.ensures.nodes) (store_finished c.read_history-ended.result c.finish_history-status.result c.read_history-ended.new.replies.bytes (g.K.Sink.written c.read_history-ended.new.sink) (g.K.Sink.written c.finish_history-status.new.sink) (g.K.Sink.faults c.read_history-ended.new.sink) (g.K.Sink.faults c.finish_history-status.new.sink) (g.N.Texts.store.faults c.in-Ok.shard.nodes) (g.N.Texts.store.faults c.read_history-ended.new.shard.nodes) (rw c.bytes.ensures at c.finish_history-status.ensures) c.read_history-ended.ensures.stored)

pub returns-in-Err-clause-ends : goal.returns-in-Err-clause-ends
returns-in-Err-clause-ends g c = each_input (g.S.Source.left c.args.source.now) (λ input. EndsRun g.N.Texts.store g.N.Nodes.count_of (live_behind (script_outcome (apply_script (run_limits c.args.limits.now)) input)) c.args.nodes c.in-Err.nodes (g.K.Sink.written c.args.sink.now) (g.K.Sink.written c.args.sink.now) NoMemory)
    (λ input. never_begun g.N.Texts.store g.N.Nodes.count_of (live_behind (script_outcome (apply_script (run_limits c.args.limits.now)) input)) c.args.nodes c.in-Err.nodes (g.K.Sink.written c.args.sink.now) c.in-Err.ensures.back)
