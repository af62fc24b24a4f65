use Rattle.count_model.proofs.Bounded.{count-few, count-small, digest_count-few, digest_count-small, texts-few}
use Rattle.count_model.proofs.laws.counts_are_bounded.Goals as goal

pub returns-clause-state : goal.returns-clause-state
returns-clause-state c = texts-few

pub returns-clause-texts : goal.returns-clause-texts
returns-clause-texts c = λ most forks t is are few. count-few most forks is are few t

pub returns-clause-digests : goal.returns-clause-digests
returns-clause-digests c = λ most forks digest is are few. digest_count-few most forks is are few digest

pub returns-clause-small_texts : goal.returns-clause-small_texts
returns-clause-small_texts c = count-small

pub returns-clause-small_digests : goal.returns-clause-small_digests
returns-clause-small_digests c = digest_count-small
