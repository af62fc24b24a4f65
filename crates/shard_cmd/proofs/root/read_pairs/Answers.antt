use Rattle.std.proofs.Common.{◌+◌, [], refl, sym, ◌∙◌}
use Rattle.output_model.specs.Ends.{RunLimits}
use Rattle.output_model.specs.Scripts.{at_last}
use Rattle.output_model.specs.Root.{root_script}
use Rattle.shard_cmd.specs.Events.{end_output}
use Rattle.shard_cmd.proofs.Scripts.{IsUpTo-begin, IsUpTo-next, ends_whole, ends_asked, nothing_left}
use Rattle.shard_cmd.proofs.RootLines.{laid_step, line_ends, ends_stopped, told_output}
use Rattle.shard_cmd.proofs.root.read_pairs.Goals as goal

pub loop-lines-init : goal.loop-lines-init
loop-lines-init g c = record {
  up_to = λ limits same. IsUpTo-begin (root_script limits) (g.S.Source.left c.args.source.now) _ _ c.new-lines.ensures c.requires;
  most = refl;
  faults = refl;
}

pub returns-in-Ok-None-clause-end : goal.returns-in-Ok-None-clause-end
returns-in-Ok-None-clause-end g c = λ limits same.
    told_output limits (g.S.Source.left c.args.source.now) (at_last (root_script limits) (c.loop-lines.lines.lines + 1) c.loop-lines.pairs.state) (ends_whole (root_script limits) (g.S.Source.left c.args.source.now) (g.S.Source.left c.loop-lines.source) (g.S.Source.left c.next_event.new.source) [] 0 c.loop-lines.lines c.next_event.new.lines c.loop-lines.pairs.state (c.loop-lines.invariant.up_to limits same)
    (rw c.in-Ok-None.field-0-is at c.in-Ok-None.ensures.next))

pub returns-in-Ok-None-clause-nothing_left : goal.returns-in-Ok-None-clause-nothing_left
returns-in-Ok-None-clause-nothing_left g c = λ _.
    let limits : RunLimits = record { pairs = c.args.pairs.now.most; blocks = 0; changes = 0 } in
    nothing_left (root_script limits) (g.S.Source.left c.args.source.now) (g.S.Source.left c.loop-lines.source) (g.S.Source.left c.next_event.new.source) [] 0 c.loop-lines.lines c.next_event.new.lines c.loop-lines.pairs.state
    (c.loop-lines.invariant.up_to limits refl) (rw c.in-Ok-None.field-0-is at c.in-Ok-None.ensures.next)

pub loop-lines-preserved : goal.loop-lines-preserved
loop-lines-preserved g c = record {
  up_to = λ limits same. IsUpTo-next (root_script limits) (g.S.Source.left c.args.source.now) (g.S.Source.left c.loop-lines.source) (g.S.Source.left c.next_event.new.source) [] [] 0 c.loop-lines.lines c.next_event.new.lines c.loop-lines.pairs.state c.lay.new.pairs.state c.in-Ok-Some.event
      (rw c.in-Ok-Some.field-0-is at c.in-Ok-Some.ensures.more) (rw c.in-Ok-Some.field-0-is at c.in-Ok-Some.ensures.next)
      (laid_step limits c.loop-lines.pairs c.lay.new.pairs _ _ (same ∙ sym c.loop-lines.invariant.most) (rw (c.number.ensures ∙ c.next_event.ensures.number) at (rw c.in-Ok-None-lay.field-0-is at c.in-Ok-None-lay.ensures.lays)))
      (c.loop-lines.invariant.up_to limits same);
  most = c.lay.ensures.most ∙ c.loop-lines.invariant.most;
  faults = c.in-Ok-Some.ensures.counted ∙ c.loop-lines.invariant.faults;
}

pub returns-in-Ok-Some-lay-clause-end : goal.returns-in-Ok-Some-lay-clause-end
returns-in-Ok-Some-lay-clause-end g c = λ limits same.
    told_output limits (g.S.Source.left c.args.source.now) (record { output = end_output c.in-Ok-Some-lay.end c.lay.new.pairs.state; loaded = 0; left = c.loop-lines.pairs.state })
    (ends_asked (root_script limits) (g.S.Source.left c.args.source.now) (g.S.Source.left c.loop-lines.source) (g.S.Source.left c.next_event.new.source) [] 0 c.loop-lines.lines c.next_event.new.lines c.loop-lines.pairs.state (c.loop-lines.invariant.up_to limits same) c.in-Ok-Some.event
    (rw c.in-Ok-Some.field-0-is at c.in-Ok-Some.ensures.more) (rw c.in-Ok-Some.field-0-is at c.in-Ok-Some.ensures.next) _
    (line_ends c.in-Ok-Some-lay.end limits c.loop-lines.pairs c.lay.new.pairs _ _ (same ∙ sym c.loop-lines.invariant.most) (rw (c.number.ensures ∙ c.next_event.ensures.number) at (rw c.in-Ok-Some-lay.field-0-is at c.in-Ok-Some-lay.ensures.lays))))

pub returns-in-Err-clause-end : goal.returns-in-Err-clause-end
returns-in-Err-clause-end g c = λ limits same.
    rw c.stopped.ensures
    (ends_stopped (g.S.Source.left c.args.source.now) (g.S.Source.left c.loop-lines.source) (g.S.Source.left c.next_event.new.source) c.number-in-Err.result c.loop-lines.lines c.next_event.new.lines c.loop-lines.pairs.state limits c.in-Err.stop
    (c.number-in-Err.ensures ∙ c.next_event.ensures.number) (c.loop-lines.invariant.up_to limits same) c.in-Err.ensures.next)
