use Rattle.visit_model.proofs.RisingRows.{entries-insert_last, rows_of-insert}
use Rattle.visit_model.proofs.laws.rising_rows_are_put_at_the_end.Goals as goal

pub returns-clause-pairs : goal.returns-clause-pairs
returns-clause-pairs c = entries-insert_last

pub returns-clause-rows : goal.returns-clause-rows
returns-clause-rows c = rows_of-insert
