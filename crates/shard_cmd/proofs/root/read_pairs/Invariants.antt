use Rattle.std.proofs.Common.{◌≡◌, ◌-◌, ◌^◌, []}
use Rattle.output_model.specs.Ends.{RunLimits}
use Rattle.output_model.specs.Root.{root_script}
use Rattle.shard_cmd.proofs.Scripts.{IsUpTo}
use Rattle.shard_cmd.proofs.root.read_pairs.Given as goal

abbrev pub invariant-loop-lines : goal.invariant-loop-lines
invariant-loop-lines g l = record {
  up_to : (limits : RunLimits) → limits.pairs ≡ l.fn.pairs.most → IsUpTo (root_script limits) (g.S.Source.left l.fn.source) [] 0 l.lines (g.S.Source.left l.source) l.pairs.state;
  most : l.pairs.most ≡ l.fn.pairs.most;
  faults : g.S.Source.faults l.source ≡ g.S.Source.faults l.fn.source;
}

abbrev pub decreases-loop-lines : goal.decreases-loop-lines
decreases-loop-lines g l = 2 ^ 30 - l.lines.before
