use Rattle.std.proofs.Common.{◌≡◌, ◌≢◌, ◌∙◌, sym, ap, Some, true, false, length, rules, arith}
use Rattle.std.specs.Str.{bytes_eq}
use Rattle.script_model.specs.Spellings.{no_bytes}
use Rattle.script_io.proofs.HexText.{hex_bytes-dash, hex_bytes-empty, hex_bytes-long, hex_bytes-ok, hex_bytes-some, hex_bytes-none}
use Rattle.script_io.proofs.hex_bytes.read_hex.Goals as goal

pub returns-then-eq : goal.returns-then-eq
returns-then-eq c =
    let dash : bytes_eq c.args.text.now no_bytes ≡ true = search rules in
    hex_bytes-dash c.args.text.now c.args.most dash ∙ ap Some (sym (c.from_bytes.ensures ∙ c.new.ensures.items))

pub returns-then-is_empty : goal.returns-then-is_empty
returns-then-is_empty c =
    let plain : bytes_eq c.args.text.now no_bytes ≡ false = search rules in
    hex_bytes-empty c.args.text.now c.args.most plain (search rules)

pub returns-then-text-most : goal.returns-then-text-most
returns-then-text-most c =
    let plain : bytes_eq c.args.text.now no_bytes ≡ false = search rules in
    let some : length c.args.text.now ≢ 0 = search rules in
    hex_bytes-long c.args.text.now c.args.most plain some (omega arith)

pub returns-in-Ok : goal.returns-in-Ok
returns-in-Ok c =
    let plain : bytes_eq c.args.text.now no_bytes ≡ false = search rules in
    let some : length c.args.text.now ≢ 0 = search rules in
    hex_bytes-ok c.args.text.now c.args.most _ plain some (omega arith) c.in-Ok.ensures.ok ∙ ap Some (sym c.from_bytes-in-Ok.ensures)

pub returns-then-are_pairs_of_digits : goal.returns-then-are_pairs_of_digits
returns-then-are_pairs_of_digits c =
    let plain : bytes_eq c.args.text.now no_bytes ≡ false = search rules in
    let some : length c.args.text.now ≢ 0 = search rules in
    hex_bytes-some c.args.text.now c.args.most plain some (omega arith) (c.are_pairs_of_digits.ensures.0 (search rules))

pub returns-else-are_pairs_of_digits : goal.returns-else-are_pairs_of_digits
returns-else-are_pairs_of_digits c =
    let plain : bytes_eq c.args.text.now no_bytes ≡ false = search rules in
    let some : length c.args.text.now ≢ 0 = search rules in
    hex_bytes-none c.args.text.now c.args.most plain some (λ ok. absurd (cc (c.if-are_pairs_of_digits.false, c.are_pairs_of_digits.ensures.1 ok)))
