use Rattle.trie_shape.proofs.Shows.{usage-shown}
use Rattle.trie_shape.proofs.laws.usages_are_shown.Goals as goal

pub returns : goal.returns
returns c = usage-shown
