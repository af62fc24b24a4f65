use Rattle.std.proofs.Common.{◌≤◌, length}
use Rattle.shard_core.proofs.Netted.{Copies}
use Rattle.shard_core.proofs.occurrences.losses.Given as goal

abbrev pub invariant-loop-place : goal.invariant-loop-place
invariant-loop-place l = Copies l.losses.items l.lost l.place × (l.place ≤ length l.lost)
