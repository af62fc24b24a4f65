use Rattle.flat_store.proofs.Counts.{blocks-kept, keys-kept}
use Rattle.flat_store.proofs.Follows.{same_blocks, state-told}
use Rattle.flat_store.proofs.laws.what_is_kept_follows_its_blocks.Goals as goal

pub returns-clause-same : goal.returns-clause-same
returns-clause-same c = λ blocks flat well is. same_blocks blocks flat is

pub returns-clause-count : goal.returns-clause-count
returns-clause-count c = λ blocks flat well is. blocks-kept blocks flat well is

pub returns-clause-states : goal.returns-clause-states
returns-clause-states c = λ blocks flat id well is live. state-told blocks flat well is id live

pub returns-clause-changes : goal.returns-clause-changes
returns-clause-changes c = λ blocks flat well is. keys-kept blocks flat well is
