use Rattle.std.proofs.Common.{◌≡◌, ◌≤◌, ℕ, List, None, map, take, if◌then◌else◌}
use Rattle.std.specs.HashMap.{spare}
use Rattle.fork_model.specs.Trees.{is_among}
use Rattle.fork_tree.specs.Kept.{placed}
use Rattle.fork_tree.proofs.commits.forget.Given as goal

abbrev pub invariant-loop-id : goal.invariant-loop-id
invariant-loop-id l =
    ((q : List ℕ) → placed l.places.entries q ≡ (if is_among q (map (λ id. id.0) (take l.id-index l.ids)) then None else placed l.initial.places.entries q)) × (spare l.initial.places ≤ spare l.places)
