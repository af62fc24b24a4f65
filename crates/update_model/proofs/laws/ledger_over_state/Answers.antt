use Rattle.update_model.proofs.Ledgers.{made_texts-outcome, taken_texts-outcome}
use Rattle.update_model.proofs.laws.ledger_over_state.Goals as goal

pub returns-clause-made : goal.returns-clause-made
returns-clause-made c = λ table state changes test is are some holds. made_texts-outcome state changes is are some table holds test

pub returns-clause-lost : goal.returns-clause-lost
returns-clause-lost c = λ table state changes digest is are some holds. taken_texts-outcome state changes is are some table holds digest
