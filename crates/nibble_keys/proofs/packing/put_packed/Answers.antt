use Rattle.std.proofs.Common.{arith}
use Rattle.std.proofs.lemmas.Grind.{common_steps}
use Rattle.byte_model.proofs.Paths.{packed-even}
use Rattle.nibble_keys.proofs.PackedPaths.{packed-odd}
use Rattle.nibble_keys.proofs.packing.put_packed.Goals as goal
use Rattle.nibble_keys.proofs.packing.put_packed.Goals.{then-leaf, else-leaf}

pub returns-in_ok-put_u8 : goal.returns-in_ok-put_u8
returns-in_ok-put_u8 c =
    let even = packed-even c.args.leaf c.args.nibbles.now c.if-nibbles-eq0.true in
    elim c.if-leaf.branch [ then-leaf w ↦ grind (arith, common_steps) | else-leaf w ↦ grind (arith, common_steps) ]

pub returns-in_ok-put_u8-2 : goal.returns-in_ok-put_u8-2
returns-in_ok-put_u8-2 c =
    let odd = packed-odd c.args.leaf c.args.nibbles.now (omega arith) in
    elim c.if-leaf.branch [ then-leaf w ↦ grind (arith, common_steps) | else-leaf w ↦ grind (arith, common_steps) ]
