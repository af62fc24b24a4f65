use Rattle.std.proofs.Common.{rules, ◌≡◌, ◌<◌, ◌*◌, length, ap, ◌∙◌, arith}
use Rattle.byte_model.proofs.Digits.{length-nibbles}
use Rattle.nibble_keys.proofs.unpacking.Packed.read.Goals as goal
use Rattle.nibble_keys.proofs.unpacking.Packed.read.Goals.{then-is_odd, else-is_odd}

-- there are two nibbles at least
pub rest-path-requires : goal.rest-path-requires
rest-path-requires c =
    let count : length c.new.result ≡ 2 * length c.args.bytes.now = ap length c.new.ensures ∙ length-nibbles c.args.bytes.now in
    let some : 0 < length c.args.bytes.now = search rules in
    elim c.if-is_odd.branch [
      | then-is_odd w ↦ omega arith
      | else-is_odd w ↦ omega arith
    ]
