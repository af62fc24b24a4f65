use Rattle.script_io.proofs.HexText.{decode_of-pairs}
use Rattle.script_io.proofs.hex_bytes.are_pairs_of_digits.Goals as goal

pub returns-then-text-eq0 : goal.returns-then-text-eq0
returns-then-text-eq0 c = decode_of-pairs c.args.text.now c.are_digits.result c.if-text-eq0.true c.are_digits.ensures
