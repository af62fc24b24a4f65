use Rattle.byte_model.proofs.Digits.{length-nibbles, AreNibbles-nibbles, nibbles-same, slice_cmp-nibbles}
use Rattle.byte_model.proofs.laws.nibbles_keep_keys_apart.Goals as goal

pub returns-clause-count : goal.returns-clause-count
returns-clause-count c = length-nibbles

pub returns-clause-small : goal.returns-clause-small
returns-clause-small c = AreNibbles-nibbles

pub returns-clause-apart : goal.returns-clause-apart
returns-clause-apart c = nibbles-same

pub returns-clause-order : goal.returns-clause-order
returns-clause-order c = slice_cmp-nibbles
