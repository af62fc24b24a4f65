use Rattle.count_model.specs.Counts.{of_digest, of_text}
use Rattle.count_model.proofs.Told.{counted-block}
use Rattle.count_model.proofs.laws.a_block_adds_what_it_gains.Goals as goal

pub returns-clause-texts : goal.returns-clause-texts
returns-clause-texts c = λ most forks header changes prev t. counted-block (of_text t) most forks header changes prev

pub returns-clause-digests : goal.returns-clause-digests
returns-clause-digests c = λ most forks header changes prev digest. counted-block (of_digest digest) most forks header changes prev
