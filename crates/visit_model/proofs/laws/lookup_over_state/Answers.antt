use Rattle.std.proofs.Common.{ap}
use Rattle.visit_model.proofs.Lookups.{lookup_visits-state}
use Rattle.visit_model.proofs.laws.lookup_over_state.Goals as goal

pub returns-clause-digests : goal.returns-clause-digests
returns-clause-digests c = λ table state key held is bytes. ap (λ v. v.digests) (lookup_visits-state table state key held is bytes)

pub returns-clause-values : goal.returns-clause-values
returns-clause-values c = λ table state key held is bytes. ap (λ v. v.values) (lookup_visits-state table state key held is bytes)

pub returns-clause-refusal : goal.returns-clause-refusal
returns-clause-refusal c = λ table state key held is bytes. ap (λ v. v.refusal) (lookup_visits-state table state key held is bytes)
