use Rattle.count_model.proofs.Different.{distinct-held}
use Rattle.count_model.proofs.Held.{clear-live, holds-counted, holds-live, keys-counted}
use Rattle.count_model.proofs.laws.counted_texts_hold_live_states.Goals as goal

pub returns-clause-holds : goal.returns-clause-holds
returns-clause-holds c = λ table forks id state is holds. holds-live table forks is holds id state

pub returns-clause-no_clash : goal.returns-clause-no_clash
returns-clause-no_clash c = clear-live

pub returns-clause-digests : goal.returns-clause-digests
returns-clause-digests c = λ table forks digest is holds. keys-counted table forks is holds digest

pub returns-clause-exactly : goal.returns-clause-exactly
returns-clause-exactly c = holds-counted

pub returns-clause-distinct : goal.returns-clause-distinct
returns-clause-distinct c = distinct-held
