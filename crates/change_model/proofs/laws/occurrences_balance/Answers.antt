use Rattle.std.proofs.Common.{nat_eq}
use Rattle.std.specs.Cmp.Lexicographic.{pointwise}
use Rattle.sha2.specs.Sha256.{sha256}
use Rattle.change_model.proofs.Balance.{exchange, more_made, more_taken}
use Rattle.change_model.proofs.laws.occurrences_balance.Goals as goal

pub returns-clause-exchange : goal.returns-clause-exchange
returns-clause-exchange c = λ state changes digest. exchange (λ t. pointwise nat_eq (sha256 t) digest) state changes

pub returns-clause-gain : goal.returns-clause-gain
returns-clause-gain c = λ state changes digest. more_made _ _ _ _ (exchange (λ t. pointwise nat_eq (sha256 t) digest) state changes)

pub returns-clause-loss : goal.returns-clause-loss
returns-clause-loss c = λ state changes digest. more_taken _ _ _ _ (exchange (λ t. pointwise nat_eq (sha256 t) digest) state changes)
