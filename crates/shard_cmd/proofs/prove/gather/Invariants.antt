use Rattle.std.proofs.Common.{map}
use Rattle.script_io.specs.Meanings.{op as meant}
use Rattle.shard_cmd.proofs.Gathered.{Gathers}
use Rattle.shard_cmd.proofs.prove.gather.Given as goal

abbrev pub invariant-loop-place : goal.invariant-loop-place
invariant-loop-place l = Gathers (map meant l.fn.list) l.fn.most l.place l.ops
