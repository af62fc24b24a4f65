use Rattle.std.proofs.Common.{◌≡◌, ◌≤◌, ℕ, List, None, is_some, take, if◌then◌else◌}
use Rattle.std.specs.Option.{option_or}
use Rattle.std.specs.HashMap.{spare}
use Rattle.fork_tree.specs.Kept.{headers, place_of, placed}
use Rattle.fork_tree.proofs.commits.put_places.Given as goal

abbrev pub invariant-loop-place : goal.invariant-loop-place
invariant-loop-place l =
    ((q : List ℕ) → placed l.places.entries q ≡ (if is_some (placed l.initial.places.entries q) then option_or (place_of (headers (take l.place l.blocks)) q) (placed l.initial.places.entries q) else None)) × (spare l.initial.places ≤ spare l.places)
