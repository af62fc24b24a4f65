use Rattle.count_model.proofs.Clashing.{clash-of_one, met-in_table}
use Rattle.count_model.proofs.laws.clashes_are_met_in_a_table.Goals as goal

pub returns-clause-one : goal.returns-clause-one
returns-clause-one c = clash-of_one

pub returns-clause-table : goal.returns-clause-table
returns-clause-table c = met-in_table
