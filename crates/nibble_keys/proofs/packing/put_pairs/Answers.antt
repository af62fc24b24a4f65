use Rattle.std.proofs.Common.{arith}
use Rattle.byte_model.specs.PackedPath.{two_to_a_byte}
use Rattle.std.proofs.lemmas.Grind.{common_steps}
use Rattle.nibble_keys.proofs.PackedPaths.{two_to_a_byte-more}
use Rattle.nibble_keys.proofs.packing.put_pairs.Goals as goal

pub loop-i-init : goal.loop-i-init
unfolding two_to_a_byte
loop-i-init c = grind (arith, common_steps)

pub loop-i-preserved : goal.loop-i-preserved
loop-i-preserved c = grind (arith, common_steps, two_to_a_byte-more)
