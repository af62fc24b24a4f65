use Rattle.std.proofs.Common.{refl, [], ◌∷◌}
use Rattle.trie_model.specs.Root.{zero_digest}
use Rattle.partial_model.proofs.Worked.{everything, spelled-changes}
use Rattle.partial_model.proofs.examples.whole_recording.Goals as goal

pub returns-clause-spelled : goal.returns-clause-spelled
unfolding everything
returns-clause-spelled c = spelled-changes _ _ zero_digest ((0x61 ∷ []) ∷ []) [] tt refl

pub returns-clause-read : goal.returns-clause-read
unfolding everything
returns-clause-read c = refl
