use Rattle.count_model.proofs.Loaded.{batch-loaded, holds-touched, lookup-loaded, usage-loaded}
use Rattle.count_model.proofs.laws.loads_are_visits.Goals as goal

pub returns-clause-lookup : goal.returns-clause-lookup
returns-clause-lookup c = λ table state key holds is bytes. lookup-loaded table state holds is key bytes

pub returns-clause-usage : goal.returns-clause-usage
returns-clause-usage c = usage-loaded

pub returns-clause-batch : goal.returns-clause-batch
returns-clause-batch c = λ table state changes holds is are. batch-loaded table state holds is changes are

pub returns-clause-places : goal.returns-clause-places
returns-clause-places c = λ table state reads changes holds. holds-touched table state holds reads changes
