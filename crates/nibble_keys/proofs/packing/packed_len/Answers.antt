use Rattle.std.proofs.Common.{arith}
use Rattle.byte_model.proofs.Paths.{length-packed}
use Rattle.nibble_keys.proofs.packing.packed_len.Goals as goal

pub returns-clause-packed : goal.returns-clause-packed
returns-clause-packed c = λ leaf path same. omega (arith, length-packed leaf path, same)
