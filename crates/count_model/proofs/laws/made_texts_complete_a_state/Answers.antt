use Rattle.trie_model.proofs.Members.{contains_of_in, in_of_contains}
use Rattle.count_model.proofs.Completed.{gained_made, holds-after, holds-later, made_in, new_texts, unheld-gains}
use Rattle.count_model.proofs.laws.made_texts_complete_a_state.Goals as goal

pub returns-clause-texts : goal.returns-clause-texts
returns-clause-texts c = new_texts

pub returns-clause-made : goal.returns-clause-made
returns-clause-made c = λ state changes t here. contains_of_in _ t (made_in state changes t (in_of_contains _ t here))

pub returns-clause-gained : goal.returns-clause-gained
returns-clause-gained c = λ state changes digest some. let made = gained_made state changes digest some in (made.0, contains_of_in _ made.0 made.1, made.2)

pub returns-clause-unheld : goal.returns-clause-unheld
returns-clause-unheld c = unheld-gains

pub returns-clause-holds : goal.returns-clause-holds
returns-clause-holds c = λ table state changes. holds-after state changes table

pub returns-clause-later : goal.returns-clause-later
returns-clause-later c = holds-later
