use Rattle.std.proofs.Common.{◌≡◌}
use Rattle.std.specs.Prelude.{vec_capacity}
use Rattle.fork_tree.proofs.Linking.{IsLinking}
use Rattle.fork_tree.proofs.links.link_all.Given as goal

abbrev pub invariant-loop-place : goal.invariant-loop-place
invariant-loop-place l = IsLinking l.initial.blocks.items l.blocks.items l.place × (vec_capacity l.blocks ≡ vec_capacity l.initial.blocks)
