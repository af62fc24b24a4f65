use Rattle.count_model.proofs.ByEntries.{move-told, times_told}
use Rattle.count_model.proofs.laws.entries_tell_numbers.Goals as goal

pub returns-clause-once : goal.returns-clause-once
returns-clause-once c = λ number entries digest rising right all. times_told number entries rising right all digest

pub returns-clause-moved : goal.returns-clause-moved
returns-clause-moved c = move-told
