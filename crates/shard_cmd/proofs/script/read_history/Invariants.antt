use Rattle.std.proofs.Common.{◌≡◌, ◌-◌, ◌^◌, ℕ, List}
use Rattle.base_core.specs.Faults.{risen}
use Rattle.fork_model.specs.States.{ForkState}
use Rattle.count_model.specs.Loads.{Access}
use Rattle.output_model.specs.Ends.{Output}
use Rattle.output_model.specs.Histories.{history_script}
use Rattle.shard_cmd.specs.Ends.{run_limits}
use Rattle.shard_cmd.specs.Histories.{IsGoing, IsOpened, history_of}
use Rattle.shard_cmd.specs.Sending.{Sends}
use Rattle.shard_cmd.proofs.Scripts.{IsUpTo}
use Rattle.shard_cmd.proofs.script.read_history.Given as goal

abbrev pub invariant-loop-event : goal.invariant-loop-event
invariant-loop-event g l = record {
  forks : ForkState;
  replied : List ℕ;
  loaded : ℕ;
  shard : IsGoing g.N.Texts.store g.N.Nodes.count_of (run_limits l.fn.limits) l.shard forks;
  is_opened : IsOpened (run_limits l.fn.limits) l.opened;
  up_to : (request : ForkState → Output) (access : Access) → IsUpTo (history_script l.fn.quiet (run_limits l.fn.limits) request access) (g.S.Source.left l.fn.source) replied loaded l.lines (g.S.Source.left l.source) (history_of forks l.opened);
  sends : Sends (g.K.Sink.written l.fn.sink) (g.K.Sink.written l.sink) replied l.replies.bytes;
  counted : g.N.Texts.store.loads l.shard.nodes ≡ risen (g.N.Texts.store.loads l.fn.shard.nodes) loaded;
  source_faults : g.S.Source.faults l.source ≡ g.S.Source.faults l.fn.source;
  sink_faults : g.K.Sink.faults l.sink ≡ g.K.Sink.faults l.fn.sink;
  store_faults : g.N.Texts.store.faults l.shard.nodes ≡ g.N.Texts.store.faults l.fn.shard.nodes;
}

abbrev pub decreases-loop-event : goal.decreases-loop-event
decreases-loop-event g l = 2 ^ 30 - l.lines.before
