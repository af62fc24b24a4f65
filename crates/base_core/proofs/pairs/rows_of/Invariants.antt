use Rattle.std.proofs.Common.{◌≡◌, ◌++◌, map}
use Rattle.base_core.specs.KeptMaps.{shown_entries}
use Rattle.base_core.proofs.pairs.rows_of.Given as goal

abbrev pub invariant-loop-key : goal.invariant-loop-key
invariant-loop-key l = map (λ row. (row.0.now, row.1.now)) l.rows.items ++ shown_entries l.key-iterator ≡ shown_entries l.pairs.entries
