use Rattle.std.proofs.Common.{ℕ, ◌+◌, [], ◌++◌, ◌∙◌, ap, refl}
use Rattle.base_core.specs.Faults.{risen}
use Rattle.fork_model.specs.States.{first_fork}
use Rattle.count_model.specs.Loads.{no_texts}
use Rattle.output_model.specs.Apply.{nothing_more}
use Rattle.output_model.specs.Histories.{history_script, event_loads}
use Rattle.script_io.specs.Meanings.{event}
use Rattle.shard_cmd.specs.Ends.{run_limits}
use Rattle.shard_cmd.specs.Histories.{IsGoing, history_of}
use Rattle.shard_cmd.proofs.Scripts.{IsUpTo-begin, IsUpTo-next, ends_early, nothing_left}
use Rattle.shard_cmd.proofs.Answered.{risen-none}
use Rattle.shard_cmd.proofs.Sending.{Sends-begin, Sends-more, Sends-then, Sends-fails, risen-risen}
use Rattle.shard_cmd.proofs.HistoryEnds.{ends_at_end, ends_at_stop, ends_at_event, ends_unsent, whole_counts, stopped_source, stopped_counts, halted_store, halted_counts, whole_known, stopped_early, halted_early}
use Rattle.shard_cmd.proofs.script.read_history.Goals as goal

pub loop-event-init : goal.loop-event-init
loop-event-init g c = record {
  forks = first_fork;
  replied = [];
  loaded = 0;
  shard = c.requires.going;
  is_opened = tt;
  up_to = λ request access. IsUpTo-begin (history_script c.args.quiet (run_limits c.args.limits.now) request access) (g.S.Source.left c.args.source.now) _ _ c.new-lines.ensures refl;
  sends = Sends-begin (g.K.Sink.written c.args.sink.now) _ c.requires.empty;
  counted = risen-none (g.N.Texts.store.loads c.args.shard.now.nodes);
  source_faults = refl;
  sink_faults = refl;
  store_faults = refl;
}

pub loop-event-preserved : goal.loop-event-preserved
loop-event-preserved g c =
    let now = c.loop-event.invariant in
    let steps = c.in-Ok.ensures now.forks now.shard now.is_opened in
    let then_does = steps.does in
    let cost : ℕ = event_loads c.args.quiet (run_limits c.args.limits.now) (history_of now.forks c.loop-event.opened) (event c.in-Ok-Some.event) in
    record {
      forks = then_does.forks_then;
      replied = now.replied ++ then_does.reply;
      loaded = now.loaded + cost;
      shard = then_does.shard;
      is_opened = then_does.is_opened;
      up_to = (λ request access. IsUpTo-next (history_script c.args.quiet (run_limits c.args.limits.now) request access) (g.S.Source.left c.args.source.now) (g.S.Source.left c.loop-event.source) (g.S.Source.left c.next_event.new.source) now.replied then_does.reply now.loaded c.loop-event.lines c.next_event.new.lines _ _ c.in-Ok-Some.event (rw c.in-Ok-Some.field-0-is at c.in-Ok-Some.ensures.more) (rw c.in-Ok-Some.field-0-is at c.in-Ok-Some.ensures.next) (then_does.step _) (now.up_to request access));
      sends = Sends-then (g.K.Sink.written c.args.sink.now) (g.K.Sink.written c.loop-event.sink) (g.K.Sink.written c.send_many.new.sink) _ _ _
          (Sends-more (g.K.Sink.written c.args.sink.now) (g.K.Sink.written c.loop-event.sink) _ _ _ _ then_does.replied now.sends) c.in-Ok-send_many.ensures.sent;
      counted = steps.loads ∙ ap (λ m. risen m cost) now.counted ∙ risen-risen (g.N.Texts.store.loads c.args.shard.now.nodes) now.loaded cost;
      source_faults = c.in-Ok-Some.ensures.counted ∙ now.source_faults;
      sink_faults = c.in-Ok-send_many.ensures.counted.same ∙ now.sink_faults;
      store_faults = steps.faults ∙ now.store_faults;
    }

pub returns-in-Err-tell-clause-end : goal.returns-in-Err-tell-clause-end
returns-in-Err-tell-clause-end g c = λ request access.
    let now = c.loop-event.invariant in
    let steps = c.in-Err-tell.ensures now.forks now.shard now.is_opened in
    ends_at_event c.args.quiet (run_limits c.args.limits.now) request access (g.S.Source.left c.args.source.now) (g.S.Source.left c.loop-event.source) (g.S.Source.left c.next_event.new.source) now.replied now.loaded c.loop-event.lines c.next_event.new.lines (g.K.Sink.written c.args.sink.now) (g.K.Sink.written c.loop-event.sink) c.loop-event.replies.bytes now.sends (g.N.Texts.store.loads c.args.shard.now.nodes) (g.N.Texts.store.loads c.loop-event.shard.nodes) now.counted now.forks c.loop-event.opened (now.up_to request access) (IsGoing g.N.Texts.store g.N.Nodes.count_of (run_limits c.args.limits.now) c.tell.new.shard) c.in-Ok-Some.event (rw c.in-Ok-Some.field-0-is at c.in-Ok-Some.ensures.more) (rw c.in-Ok-Some.field-0-is at c.in-Ok-Some.ensures.next) (g.N.Texts.store.loads c.tell.new.shard.nodes) c.in-Err-tell.halt c.number.result c.tell.new.replies.bytes c.halted.new.replies.bytes c.halted.result
    (c.number.ensures ∙ c.next_event.ensures.number) steps.does steps.loads c.halted.ensures

pub returns-in-Ok-None-clause-end : goal.returns-in-Ok-None-clause-end
returns-in-Ok-None-clause-end g c = λ request access.
    let now = c.loop-event.invariant in
    ends_at_end c.args.quiet (run_limits c.args.limits.now) request access (g.S.Source.left c.args.source.now) (g.S.Source.left c.loop-event.source) (g.S.Source.left c.next_event.new.source) now.replied now.loaded c.loop-event.lines c.next_event.new.lines (g.K.Sink.written c.args.sink.now) (g.K.Sink.written c.loop-event.sink) c.loop-event.replies.bytes now.sends (g.N.Texts.store.loads c.args.shard.now.nodes) (g.N.Texts.store.loads c.loop-event.shard.nodes) now.counted now.forks c.loop-event.opened (now.up_to request access) (IsGoing g.N.Texts.store g.N.Nodes.count_of (run_limits c.args.limits.now) c.loop-event.shard) c.number-in-Ok-None.result c.whole.new.replies.bytes c.whole.result (c.number-in-Ok-None.ensures ∙ c.next_event.ensures.number) now.shard (rw c.in-Ok-None.field-0-is at c.in-Ok-None.ensures.next) c.whole.ensures

pub returns-in-Ok-None-clause-nothing_left : goal.returns-in-Ok-None-clause-nothing_left
returns-in-Ok-None-clause-nothing_left g c = λ done.
    let now = c.loop-event.invariant in
    nothing_left (history_script c.args.quiet (run_limits c.args.limits.now) nothing_more no_texts) (g.S.Source.left c.args.source.now) (g.S.Source.left c.loop-event.source) (g.S.Source.left c.next_event.new.source) now.replied now.loaded c.loop-event.lines c.next_event.new.lines (history_of now.forks c.loop-event.opened) (now.up_to nothing_more no_texts) (rw c.in-Ok-None.field-0-is at c.in-Ok-None.ensures.next)

pub returns-in-Err-clause-end : goal.returns-in-Err-clause-end
returns-in-Err-clause-end g c = λ request access.
    let now = c.loop-event.invariant in
    ends_at_stop c.args.quiet (run_limits c.args.limits.now) request access (g.S.Source.left c.args.source.now) (g.S.Source.left c.loop-event.source) (g.S.Source.left c.next_event.new.source) now.replied now.loaded c.loop-event.lines c.next_event.new.lines (g.K.Sink.written c.args.sink.now) (g.K.Sink.written c.loop-event.sink) c.loop-event.replies.bytes now.sends (g.N.Texts.store.loads c.args.shard.now.nodes) (g.N.Texts.store.loads c.loop-event.shard.nodes) now.counted now.forks c.loop-event.opened (now.up_to request access) (IsGoing g.N.Texts.store g.N.Nodes.count_of (run_limits c.args.limits.now) c.loop-event.shard) c.in-Err.stop c.number-in-Err.result c.stopped.new.replies.bytes c.stopped.result (c.number-in-Err.ensures ∙ c.next_event.ensures.number) now.shard c.in-Err.ensures.next c.stopped.ensures

pub returns-in-Err-send_many-clause-end : goal.returns-in-Err-send_many-clause-end
returns-in-Err-send_many-clause-end g c = λ request access.
    let now = c.loop-event.invariant in
    let steps = c.in-Ok.ensures now.forks now.shard now.is_opened in
    let then_does = steps.does in
    let cost : ℕ = event_loads c.args.quiet (run_limits c.args.limits.now) (history_of now.forks c.loop-event.opened) (event c.in-Ok-Some.event) in
    let next = IsUpTo-next (history_script c.args.quiet (run_limits c.args.limits.now) request access) (g.S.Source.left c.args.source.now) (g.S.Source.left c.loop-event.source) (g.S.Source.left c.next_event.new.source) now.replied then_does.reply now.loaded c.loop-event.lines c.next_event.new.lines _ _ c.in-Ok-Some.event (rw c.in-Ok-Some.field-0-is at c.in-Ok-Some.ensures.more) (rw c.in-Ok-Some.field-0-is at c.in-Ok-Some.ensures.next) (then_does.step _) (now.up_to request access) in
    ends_unsent (history_script c.args.quiet (run_limits c.args.limits.now) request access) (g.S.Source.left c.args.source.now) (now.replied ++ then_does.reply) (now.loaded + cost) (g.K.Sink.written c.args.sink.now) (g.K.Sink.written c.send_many.new.sink) (g.N.Texts.store.loads c.args.shard.now.nodes) (g.N.Texts.store.loads c.tell.new.shard.nodes)
    (steps.loads ∙ ap (λ m. risen m cost) now.counted ∙ risen-risen (g.N.Texts.store.loads c.args.shard.now.nodes) now.loaded cost)
    (ends_early (history_script c.args.quiet (run_limits c.args.limits.now) request access) (g.S.Source.left c.args.source.now) (g.S.Source.left c.next_event.new.source) (g.S.Source.left c.next_event.new.source) (now.replied ++ then_does.reply) (now.loaded + cost) c.next_event.new.lines c.next_event.new.lines _ next)
    (Sends-fails (g.K.Sink.written c.args.sink.now) (g.K.Sink.written c.loop-event.sink) (g.K.Sink.written c.send_many.new.sink) _ _
    (Sends-more (g.K.Sink.written c.args.sink.now) (g.K.Sink.written c.loop-event.sink) _ _ _ _ then_does.replied now.sends) c.in-Err-send_many.ensures.failed)

pub returns-in-Ok-None-clause-read : goal.returns-in-Ok-None-clause-read
returns-in-Ok-None-clause-read g c =
    let now = c.loop-event.invariant in
    (whole_counts c.number-in-Ok-None.result c.loop-event.replies.bytes c.whole.new.replies.bytes c.whole.result (g.S.Source.faults c.args.source.now) _ c.loop-event.opened c.whole.ensures (c.in-Ok-None.ensures.counted ∙ now.source_faults)).0

pub returns-in-Ok-None-clause-sent : goal.returns-in-Ok-None-clause-sent
returns-in-Ok-None-clause-sent g c =
    let now = c.loop-event.invariant in
    (whole_counts c.number-in-Ok-None.result c.loop-event.replies.bytes c.whole.new.replies.bytes c.whole.result (g.K.Sink.faults c.args.sink.now) _ c.loop-event.opened c.whole.ensures now.sink_faults).1

pub returns-in-Ok-None-clause-stored : goal.returns-in-Ok-None-clause-stored
returns-in-Ok-None-clause-stored g c =
    let now = c.loop-event.invariant in
    (whole_counts c.number-in-Ok-None.result c.loop-event.replies.bytes c.whole.new.replies.bytes c.whole.result (g.N.Texts.store.faults c.args.shard.now.nodes) _ c.loop-event.opened c.whole.ensures now.store_faults).2

pub returns-in-Err-clause-read : goal.returns-in-Err-clause-read
returns-in-Err-clause-read g c =
    let now = c.loop-event.invariant in
    stopped_source c.number-in-Err.result c.loop-event.replies.bytes c.stopped.new.replies.bytes c.stopped.result (g.S.Source.faults c.args.source.now) _ c.in-Err.stop c.stopped.ensures (rw now.source_faults at c.in-Err.ensures.counted)

pub returns-in-Err-clause-sent : goal.returns-in-Err-clause-sent
returns-in-Err-clause-sent g c =
    let now = c.loop-event.invariant in
    (stopped_counts c.number-in-Err.result c.loop-event.replies.bytes c.stopped.new.replies.bytes c.stopped.result (g.K.Sink.faults c.args.sink.now) _ c.in-Err.stop c.stopped.ensures now.sink_faults).0

pub returns-in-Err-clause-stored : goal.returns-in-Err-clause-stored
returns-in-Err-clause-stored g c =
    let now = c.loop-event.invariant in
    (stopped_counts c.number-in-Err.result c.loop-event.replies.bytes c.stopped.new.replies.bytes c.stopped.result (g.N.Texts.store.faults c.args.shard.now.nodes) _ c.in-Err.stop c.stopped.ensures now.store_faults).1

pub returns-in-Err-tell-clause-read : goal.returns-in-Err-tell-clause-read
returns-in-Err-tell-clause-read g c =
    let now = c.loop-event.invariant in
    (halted_counts c.number.result c.tell.new.replies.bytes c.halted.new.replies.bytes c.halted.result (g.S.Source.faults c.args.source.now) _ c.in-Err-tell.halt c.halted.ensures (c.in-Ok-Some.ensures.counted ∙ now.source_faults)).0

pub returns-in-Err-tell-clause-sent : goal.returns-in-Err-tell-clause-sent
returns-in-Err-tell-clause-sent g c =
    let now = c.loop-event.invariant in
    (halted_counts c.number.result c.tell.new.replies.bytes c.halted.new.replies.bytes c.halted.result (g.K.Sink.faults c.args.sink.now) _ c.in-Err-tell.halt c.halted.ensures now.sink_faults).1

pub returns-in-Err-tell-clause-stored : goal.returns-in-Err-tell-clause-stored
returns-in-Err-tell-clause-stored g c =
    let now = c.loop-event.invariant in
    halted_store c.number.result c.tell.new.replies.bytes c.halted.new.replies.bytes c.halted.result (g.N.Texts.store.faults c.args.shard.now.nodes) _ c.in-Err-tell.halt c.halted.ensures (rw now.store_faults at (c.in-Err-tell.ensures now.forks now.shard now.is_opened).faults)

pub returns-in-Err-send_many-clause-stored : goal.returns-in-Err-send_many-clause-stored
returns-in-Err-send_many-clause-stored g c =
    let now = c.loop-event.invariant in
    (c.in-Ok.ensures now.forks now.shard now.is_opened).faults ∙ now.store_faults

pub returns-in-Ok-None-clause-no_usage : goal.returns-in-Ok-None-clause-no_usage
returns-in-Ok-None-clause-no_usage g c = whole_known c.number-in-Ok-None.result c.loop-event.replies.bytes c.whole.new.replies.bytes c.whole.result c.loop-event.opened c.whole.ensures

pub returns-in-Ok-None-clause-going : goal.returns-in-Ok-None-clause-going
returns-in-Ok-None-clause-going g c = λ whole. (c.loop-event.invariant.forks, c.loop-event.invariant.shard)

pub returns-in-Err-clause-no_usage : goal.returns-in-Err-clause-no_usage
returns-in-Err-clause-no_usage g c = (stopped_early c.number-in-Err.result c.loop-event.replies.bytes c.stopped.new.replies.bytes c.stopped.result c.in-Err.stop c.stopped.ensures).0

pub returns-in-Err-clause-going : goal.returns-in-Err-clause-going
returns-in-Err-clause-going g c = λ whole. absurd ((stopped_early c.number-in-Err.result c.loop-event.replies.bytes c.stopped.new.replies.bytes c.stopped.result c.in-Err.stop c.stopped.ensures).1 whole)

pub returns-in-Err-clause-nothing_left : goal.returns-in-Err-clause-nothing_left
returns-in-Err-clause-nothing_left g c = λ whole. absurd ((stopped_early c.number-in-Err.result c.loop-event.replies.bytes c.stopped.new.replies.bytes c.stopped.result c.in-Err.stop c.stopped.ensures).1 whole)

pub returns-in-Err-tell-clause-no_usage : goal.returns-in-Err-tell-clause-no_usage
returns-in-Err-tell-clause-no_usage g c = (halted_early c.number.result c.tell.new.replies.bytes c.halted.new.replies.bytes c.halted.result c.in-Err-tell.halt c.halted.ensures).0

pub returns-in-Err-tell-clause-going : goal.returns-in-Err-tell-clause-going
returns-in-Err-tell-clause-going g c = λ whole. absurd ((halted_early c.number.result c.tell.new.replies.bytes c.halted.new.replies.bytes c.halted.result c.in-Err-tell.halt c.halted.ensures).1 whole)

pub returns-in-Err-tell-clause-nothing_left : goal.returns-in-Err-tell-clause-nothing_left
returns-in-Err-tell-clause-nothing_left g c = λ whole. absurd ((halted_early c.number.result c.tell.new.replies.bytes c.halted.new.replies.bytes c.halted.result c.in-Err-tell.halt c.halted.ensures).1 whole)
