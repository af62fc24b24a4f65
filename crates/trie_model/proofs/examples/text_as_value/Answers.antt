use Rattle.std.proofs.Common.{refl}
use Rattle.trie_model.proofs.Worked.{everything, texts_of-from_sorted, root-from_sorted, total-from_sorted}
use Rattle.trie_model.proofs.examples.text_as_value.Goals as goal

pub returns-clause-texts : goal.returns-clause-texts
unfolding everything
returns-clause-texts c = texts_of-from_sorted _ _ tt refl

pub returns-clause-root : goal.returns-clause-root
unfolding everything
returns-clause-root c = root-from_sorted _ _ tt refl

pub returns-clause-usage : goal.returns-clause-usage
unfolding everything
returns-clause-usage c = total-from_sorted _ _ tt refl
