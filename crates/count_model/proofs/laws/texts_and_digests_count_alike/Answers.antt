use Rattle.trie_model.specs.Root.{texts_of}
use Rattle.count_model.specs.Tables.{live_texts}
use Rattle.count_model.proofs.Alike.{alone_clear, counts-alike, counts_held, gain-alike, loss-alike, occurs-alike, uncounted}
use Rattle.count_model.proofs.laws.texts_and_digests_count_alike.Goals as goal

pub returns-clause-state : goal.returns-clause-state
returns-clause-state c = λ state t clear. occurs-alike state t (alone_clear (texts_of state) t clear)

pub returns-clause-gain : goal.returns-clause-gain
returns-clause-gain c = gain-alike

pub returns-clause-loss : goal.returns-clause-loss
returns-clause-loss c = loss-alike

pub returns-clause-forks : goal.returns-clause-forks
returns-clause-forks c = λ forks t clear. counts-alike forks t (alone_clear (live_texts forks) t clear)

pub returns-clause-held : goal.returns-clause-held
returns-clause-held c = counts_held

pub returns-clause-unheld : goal.returns-clause-unheld
returns-clause-unheld c = uncounted
