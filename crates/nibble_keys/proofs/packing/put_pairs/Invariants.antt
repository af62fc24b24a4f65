use Rattle.std.proofs.Common.{◌≡◌, ◌*◌, ◌++◌, take}
use Rattle.byte_model.specs.PackedPath.{two_to_a_byte}
use Rattle.nibble_keys.proofs.packing.put_pairs.Given as goal

abbrev pub invariant-loop-i : goal.invariant-loop-i
invariant-loop-i l = l.writer ≡ l.initial.writer ++ two_to_a_byte (take (2 * l.i) l.nibbles)
