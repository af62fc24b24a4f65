use Rattle.std.proofs.Common.{◌≤◌, length}
use Rattle.shard_core.proofs.Netted.{Gathers}
use Rattle.shard_core.proofs.occurrences.gains.Given as goal

abbrev pub invariant-loop-place : goal.invariant-loop-place
invariant-loop-place l = Gathers l.gains.items l.made l.place × (l.place ≤ length l.made)
