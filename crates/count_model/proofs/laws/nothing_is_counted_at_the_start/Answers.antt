use Rattle.std.proofs.Common.{nat_eq, ap}
use Rattle.std.specs.List.{count_by}
use Rattle.std.specs.Cmp.Lexicographic.{pointwise}
use Rattle.sha2.specs.Sha256.{sha256}
use Rattle.trie_model.proofs.Worked.{texts_of-empty}
use Rattle.count_model.specs.Counts.{of_digest, of_text}
use Rattle.count_model.proofs.Told.{counted-start, live-start}
use Rattle.count_model.proofs.laws.nothing_is_counted_at_the_start.Goals as goal

pub returns-clause-texts : goal.returns-clause-texts
returns-clause-texts c = λ t. counted-start (of_text t) (ap (count_by (λ other. pointwise nat_eq other t)) texts_of-empty)

pub returns-clause-digests : goal.returns-clause-digests
returns-clause-digests c = λ digest. counted-start (of_digest digest) (ap (count_by (λ other. pointwise nat_eq (sha256 other) digest)) texts_of-empty)

pub returns-clause-live : goal.returns-clause-live
returns-clause-live c = live-start
