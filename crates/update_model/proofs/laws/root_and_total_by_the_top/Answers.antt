use Rattle.std.proofs.Common.{[]}
use Rattle.trie_model.specs.Root.{subtree_at}
use Rattle.update_model.proofs.Joints.{top_digest-top_of, top_usage-top_of}
use Rattle.update_model.proofs.OverStates.{root-top_of}
use Rattle.update_model.proofs.laws.root_and_total_by_the_top.Goals as goal

pub returns-clause-name : goal.returns-clause-name
returns-clause-name c = top_digest-top_of

pub returns-clause-usage : goal.returns-clause-usage
returns-clause-usage c = top_usage-top_of

pub returns-clause-root : goal.returns-clause-root
returns-clause-root c = λ state. root-top_of (subtree_at state [])

pub returns-clause-total : goal.returns-clause-total
returns-clause-total c = λ state. top_usage-top_of (subtree_at state [])
