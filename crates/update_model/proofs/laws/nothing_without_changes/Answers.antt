use Rattle.std.proofs.Common.{map, ap}
use Rattle.byte_model.specs.Nibbles.{nibbles}
use Rattle.update_model.proofs.OverStates.{after-none, counts-none}
use Rattle.update_model.proofs.laws.nothing_without_changes.Goals as goal

pub returns-clause-state : goal.returns-clause-state
returns-clause-state c = after-none

pub returns-clause-counts : goal.returns-clause-counts
returns-clause-counts c = counts-none

pub returns-clause-rows : goal.returns-clause-rows
returns-clause-rows c = λ changes e. ap (map (λ change. (nibbles change.0, change.1))) e
