use Rattle.std.proofs.Common.{◌≡◌, ℕ, List, drop, map}
use Rattle.std.specs.Option.{option_copied, option_or}
use Rattle.std.specs.FinMap.{find, get}
use Rattle.base_core.proofs.ByteMaps.{order}
use Rattle.flat_store.specs.Kept.{changes_of}
use Rattle.flat_store.proofs.maps.note_rows.Given as goal

abbrev pub invariant-loop-row : goal.invariant-loop-row
invariant-loop-row l =
    (key : List ℕ) → option_or (get (changes_of l.newest.entries) key) (find order key (map (λ row. (row.0.now, option_copied row.1)) (drop l.row-index l.rows))) ≡ option_or (get (changes_of l.initial.newest.entries) key) (find order key (map (λ row. (row.0.now, option_copied row.1)) l.rows))
