use Rattle.update_model.proofs.Ledgers.{gain-outcome, loss-outcome, occurrences-outcome, lost-within, made-within}
use Rattle.update_model.proofs.laws.ledger_is_gain_and_loss.Goals as goal

pub returns-clause-gain : goal.returns-clause-gain
returns-clause-gain c = λ table state changes digest is are some holds. gain-outcome state changes is are some table holds digest

pub returns-clause-loss : goal.returns-clause-loss
returns-clause-loss c = λ table state changes digest is are some holds. loss-outcome state changes is are some table holds digest

pub returns-clause-balance : goal.returns-clause-balance
returns-clause-balance c = λ table state changes digest is are some holds. occurrences-outcome state changes is are some table holds digest

pub returns-clause-lost : goal.returns-clause-lost
returns-clause-lost c = λ table state changes digest is are some holds. lost-within state changes is are some table holds digest

pub returns-clause-made : goal.returns-clause-made
returns-clause-made c = λ table state changes digest is are some holds. made-within state changes is are some table holds digest
