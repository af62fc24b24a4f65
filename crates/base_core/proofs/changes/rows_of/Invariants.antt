use Rattle.std.proofs.Common.{◌≡◌, ◌++◌, map}
use Rattle.std.specs.Option.{option_copied}
use Rattle.base_core.specs.KeptMaps.{shown_entries}
use Rattle.base_core.proofs.changes.rows_of.Given as goal

abbrev pub invariant-loop-key : goal.invariant-loop-key
invariant-loop-key l = map (λ row. (row.0.now, option_copied row.1)) l.rows.items ++ shown_entries l.key-iterator ≡ shown_entries l.changes.entries
