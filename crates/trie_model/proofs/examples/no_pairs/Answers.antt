use Rattle.std.proofs.Common.{ap}
use Rattle.hex.specs.Hex.{encode_lower}
use Rattle.trie_model.proofs.Worked.{everything, texts_of-empty, root-empty, total-empty}
use Rattle.trie_model.proofs.examples.no_pairs.Goals as goal

pub returns-clause-texts : goal.returns-clause-texts
returns-clause-texts c = texts_of-empty

pub returns-clause-root : goal.returns-clause-root
unfolding everything
returns-clause-root c = ap encode_lower root-empty

pub returns-clause-usage : goal.returns-clause-usage
returns-clause-usage c = total-empty
