use Rattle.std.proofs.Common.{ℕ, ap}
use Rattle.output_model.specs.Scripts.{script_outcome}
use Rattle.output_model.specs.Output.{live_behind}
use Rattle.shard_cmd.specs.Ends.{run_limits}
use Rattle.shard_cmd.specs.declared.status.Status.TheVariants.{NoMemory}
use Rattle.shard_cmd.specs.HandedBack.{EndsRun}
use Rattle.shard_cmd.specs.Histories.{IsGoing}
use Rattle.shard_cmd.specs.Sending.{EndsHistory}
use Rattle.shard_cmd.specs.Requests.{asked_access, asked_output, request_script}
use Rattle.shard_cmd.proofs.Runs.{by_input, each_input}
use Rattle.shard_cmd.proofs.HistoryRuns.{request_ends, never_begun}
use Rattle.shard_cmd.proofs.Finished.{finished_done, finished_usage, sink_counts, source_finished, store_finished}
use Rattle.shard_cmd.proofs.Requests.{never_usage, read_whole, same_sink, same_source, same_store}
use Rattle.shard_cmd.proofs.request.run_request.Goals as goal

pub read_history-read-requires-clause-going : goal.read_history-read-requires-clause-going
read_history-read-requires-clause-going g c = record { of = c.in-Ok.ensures.blocks; going = c.in-Ok.ensures.going; limits_are = ap run_limits c.in-Ok.ensures.limits }

pub answer_behind-ended-requires-clause-going : goal.answer_behind-ended-requires-clause-going
answer_behind-ended-requires-clause-going g c = λ e. let w = c.read_history-read.ensures.going e in (run_limits c.args.limits.now, w.0, w.1)

pub returns-clause-ends : goal.returns-clause-ends
returns-clause-ends g c =
    by_input (g.S.Source.left c.args.source.now)
    (λ input. EndsHistory (run_limits c.args.limits.now) (asked_output c.args.request) (asked_access c.args.request) (script_outcome (request_script (run_limits c.args.limits.now) c.args.request) input) (IsGoing g.N.Texts.store g.N.Nodes.count_of (run_limits c.args.limits.now) c.read_history-read.new.shard) (g.K.Sink.written c.args.sink.now) (g.K.Sink.written c.read_history-read.new.sink) c.read_history-read.new.replies.bytes (record { before = g.N.Texts.store.loads c.in-Ok.shard.nodes; now = g.N.Texts.store.loads c.read_history-read.new.shard.nodes }) c.read_history-read.result)
    (λ input. EndsRun g.N.Texts.store g.N.Nodes.count_of (live_behind (script_outcome (request_script (run_limits c.args.limits.now) c.args.request) input)) c.args.nodes c.into_nodes.result (g.K.Sink.written c.args.sink.now) (g.K.Sink.written c.finish_history-status.new.sink) c.finish_history-status.result)
    (λ input h. rw (c.into_nodes.ensures, ← c.in-Ok.ensures.nodes) (request_ends g.N.Texts.store g.N.Nodes.count_of (run_limits c.args.limits.now) (asked_output c.args.request) (asked_access c.args.request) c.read_history-read.new.shard c.answer_behind-ended.new.shard (script_outcome (request_script (run_limits c.args.limits.now) c.args.request) input) c.in-Ok.shard.nodes (g.K.Sink.written c.args.sink.now) (g.K.Sink.written c.read_history-read.new.sink) (g.K.Sink.written c.finish_history-status.new.sink) c.read_history-read.new.replies.bytes c.answer_behind-ended.new.replies.bytes c.finish_history-status.result (g.K.Sink.faults c.read_history-read.new.sink) (g.K.Sink.faults c.finish_history-status.new.sink)
    c.read_history-read.result c.answer_behind-ended.result h c.answer_behind-ended.ensures.answered c.answer_behind-ended.ensures.others (rw c.bytes.ensures at c.finish_history-status.ensures)))
    (c.read_history-read.ensures.end (asked_output c.args.request) (asked_access c.args.request))

pub returns-clause-nothing_left : goal.returns-clause-nothing_left
returns-clause-nothing_left g c = λ done. c.read_history-read.ensures.nothing_left (read_whole c.read_history-read.new.replies.bytes c.answer_behind-ended.new.replies.bytes c.read_history-read.result c.answer_behind-ended.result (λ e. let w = c.read_history-read.ensures.going e in (asked_output c.args.request w.0, (c.answer_behind-ended.ensures.answered e (run_limits c.args.limits.now) w.0 w.1).answers)) (λ n. (c.answer_behind-ended.ensures.others n).0) (finished_done c.answer_behind-ended.result c.finish_history-status.result c.answer_behind-ended.new.replies.bytes (g.K.Sink.written c.read_history-read.new.sink) (g.K.Sink.written c.finish_history-status.new.sink) (g.K.Sink.faults c.read_history-read.new.sink) (g.K.Sink.faults c.finish_history-status.new.sink) (rw c.bytes.ensures at c.finish_history-status.ensures) done))

pub returns-clause-no_usage : goal.returns-clause-no_usage
returns-clause-no_usage g c = finished_usage c.answer_behind-ended.result c.finish_history-status.result c.answer_behind-ended.new.replies.bytes (g.K.Sink.written c.read_history-read.new.sink) (g.K.Sink.written c.finish_history-status.new.sink) (g.K.Sink.faults c.read_history-read.new.sink) (g.K.Sink.faults c.finish_history-status.new.sink) (rw c.bytes.ensures at c.finish_history-status.ensures) (never_usage c.read_history-read.new.replies.bytes c.answer_behind-ended.new.replies.bytes c.read_history-read.result c.answer_behind-ended.result (λ e. let w = c.read_history-read.ensures.going e in (asked_output c.args.request w.0, (c.answer_behind-ended.ensures.answered e (run_limits c.args.limits.now) w.0 w.1).answers)) (λ n. (c.answer_behind-ended.ensures.others n).0) c.read_history-read.ensures.no_usage)

pub returns-clause-source_faults : goal.returns-clause-source_faults
returns-clause-source_faults g c = source_finished c.answer_behind-ended.result c.finish_history-status.result c.answer_behind-ended.new.replies.bytes (g.K.Sink.written c.read_history-read.new.sink) (g.K.Sink.written c.finish_history-status.new.sink) (g.K.Sink.faults c.read_history-read.new.sink) (g.K.Sink.faults c.finish_history-status.new.sink) (g.S.Source.faults c.args.source.now) (g.S.Source.faults c.read_history-read.new.source) (rw c.bytes.ensures at c.finish_history-status.ensures) (same_source c.read_history-read.new.replies.bytes c.answer_behind-ended.new.replies.bytes c.read_history-read.result c.answer_behind-ended.result (λ e. let w = c.read_history-read.ensures.going e in (asked_output c.args.request w.0, (c.answer_behind-ended.ensures.answered e (run_limits c.args.limits.now) w.0 w.1).answers)) (λ n. (c.answer_behind-ended.ensures.others n).0) (g.S.Source.faults c.args.source.now) (g.S.Source.faults c.read_history-read.new.source) c.read_history-read.ensures.read)

pub returns-clause-sink_faults : goal.returns-clause-sink_faults
returns-clause-sink_faults g c = sink_counts c.answer_behind-ended.result c.finish_history-status.result c.answer_behind-ended.new.replies.bytes (g.K.Sink.written c.read_history-read.new.sink) (g.K.Sink.written c.finish_history-status.new.sink) (g.K.Sink.faults c.args.sink.now) (g.K.Sink.faults c.read_history-read.new.sink) (g.K.Sink.faults c.finish_history-status.new.sink) (same_sink c.read_history-read.new.replies.bytes c.answer_behind-ended.new.replies.bytes c.read_history-read.result c.answer_behind-ended.result (λ e. let w = c.read_history-read.ensures.going e in (asked_output c.args.request w.0, (c.answer_behind-ended.ensures.answered e (run_limits c.args.limits.now) w.0 w.1).answers)) (λ n. (c.answer_behind-ended.ensures.others n).0) (g.K.Sink.faults c.args.sink.now) (g.K.Sink.faults c.read_history-read.new.sink) c.read_history-read.ensures.sent) (rw c.bytes.ensures at c.finish_history-status.ensures)

pub returns-clause-store_faults : goal.returns-clause-store_faults
returns-clause-store_faults g c =
    let first : ℕ = g.N.Texts.store.faults c.in-Ok.shard.nodes in
    let mid : ℕ = g.N.Texts.store.faults c.read_history-read.new.shard.nodes in
    let now : ℕ = g.N.Texts.store.faults c.answer_behind-ended.new.shard.nodes in
    rw (c.into_nodes.ensures, ← c.in-Ok.ensures.nodes) (store_finished c.answer_behind-ended.result c.finish_history-status.result c.answer_behind-ended.new.replies.bytes (g.K.Sink.written c.read_history-read.new.sink) (g.K.Sink.written c.finish_history-status.new.sink) (g.K.Sink.faults c.read_history-read.new.sink) (g.K.Sink.faults c.finish_history-status.new.sink) first now (rw c.bytes.ensures at c.finish_history-status.ensures)
    (same_store c.read_history-read.new.replies.bytes c.answer_behind-ended.new.replies.bytes c.read_history-read.result c.answer_behind-ended.result (λ e. let w = c.read_history-read.ensures.going e in (asked_output c.args.request w.0, (c.answer_behind-ended.ensures.answered e (run_limits c.args.limits.now) w.0 w.1).answers)) (λ n. (c.answer_behind-ended.ensures.others n).0) first mid now c.read_history-read.ensures.stored (λ e. let w = c.read_history-read.ensures.going e in (c.answer_behind-ended.ensures.answered e (run_limits c.args.limits.now) w.0 w.1).faults) (λ n. ap (λ shard. g.N.Texts.store.faults shard.nodes) (c.answer_behind-ended.ensures.others n).1)))

pub returns-in-Err-clause-ends : goal.returns-in-Err-clause-ends
returns-in-Err-clause-ends g c = each_input (g.S.Source.left c.args.source.now) (λ input. EndsRun g.N.Texts.store g.N.Nodes.count_of (live_behind (script_outcome (request_script (run_limits c.args.limits.now) c.args.request) input)) c.args.nodes c.in-Err.nodes (g.K.Sink.written c.args.sink.now) (g.K.Sink.written c.args.sink.now) NoMemory)
    (λ input. never_begun g.N.Texts.store g.N.Nodes.count_of (live_behind (script_outcome (request_script (run_limits c.args.limits.now) c.args.request) input)) c.args.nodes c.in-Err.nodes (g.K.Sink.written c.args.sink.now) c.in-Err.ensures.back)
