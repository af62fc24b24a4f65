use Rattle.trie_update.proofs.PlaceFacts.{former-some, former-none, fits-nothing}
use Rattle.trie_update.proofs.former.former_child.Goals as goal

pub returns-in-Some-clause-place : goal.returns-in-Some-clause-place
returns-in-Some-clause-place c = λ table depth. former-some table depth c.in-Some.digest _ c.in-Some.ensures.value

pub returns-in-None-clause-place : goal.returns-in-None-clause-place
returns-in-None-clause-place c = λ table depth. former-none table depth _ c.in-None.ensures.value

pub returns-in-None-clause-fits : goal.returns-in-None-clause-fits
returns-in-None-clause-fits c = λ depth. fits-nothing depth
