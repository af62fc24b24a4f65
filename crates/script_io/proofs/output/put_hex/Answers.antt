use Rattle.std.proofs.Common.{◌≡◌, ◌≢◌, length, rules}
use Rattle.script_io.proofs.HexText.{hex_text-none, hex_text-some}
use Rattle.script_io.proofs.output.put_hex.Goals as goal

pub returns-then-is_empty-clause-written : goal.returns-then-is_empty-clause-written
returns-then-is_empty-clause-written g c =
    let none : length c.args.bytes.now ≡ 0 = search rules in
    rw (hex_text-none c.args.bytes.now none) c.put.ensures.written

pub returns-clause-written : goal.returns-clause-written
returns-clause-written g c =
    let some : length c.args.bytes.now ≢ 0 = search rules in
    rw (hex_text-some c.args.bytes.now some) c.put_digits.ensures.written
