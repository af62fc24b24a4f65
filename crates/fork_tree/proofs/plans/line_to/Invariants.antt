use Rattle.std.proofs.Common.{◌≡◌, ◌<◌, ◌++◌, length, map, reverse}
use Rattle.fork_model.specs.Trees.{line}
use Rattle.fork_tree.specs.Kept.{id_at, tree_of}
use Rattle.fork_tree.proofs.plans.line_to.Given as goal

abbrev pub invariant-loop-at : goal.invariant-loop-at
invariant-loop-at l =
    (l.at < length l.blocks) × (line (tree_of l.blocks) (id_at l.blocks l.fn.place) ≡ line (tree_of l.blocks) (id_at l.blocks l.at) ++ reverse (map (λ id. id.0) l.ids.items))

abbrev pub decreases-loop-at : goal.decreases-loop-at
decreases-loop-at l = l.at
