use Rattle.byte_model.proofs.Widths.{length-borsh_u16, length-borsh_u32, length-borsh_u64, borsh_u16-same, borsh_u32-same, borsh_u64-same}
use Rattle.byte_model.proofs.laws.integers_are_spelled_apart.Goals as goal

pub returns-clause-two_bytes : goal.returns-clause-two_bytes
returns-clause-two_bytes c = length-borsh_u16

pub returns-clause-four_bytes : goal.returns-clause-four_bytes
returns-clause-four_bytes c = length-borsh_u32

pub returns-clause-eight_bytes : goal.returns-clause-eight_bytes
returns-clause-eight_bytes c = length-borsh_u64

pub returns-clause-two_apart : goal.returns-clause-two_apart
returns-clause-two_apart c = borsh_u16-same

pub returns-clause-four_apart : goal.returns-clause-four_apart
returns-clause-four_apart c = borsh_u32-same

pub returns-clause-eight_apart : goal.returns-clause-eight_apart
returns-clause-eight_apart c = borsh_u64-same
