use Rattle.std.proofs.Common.{◌≡◌, ◌≢◌, length, sym, refl, ◌∙◌, arith, rules}
use Rattle.script_io.proofs.Numbers.{number_of-empty, number_of-long, Writes-more, Writes-stops, Writes-all}
use Rattle.script_io.proofs.number.read_number.Goals as goal
use Rattle.script_io.proofs.number.read_number.Goals.{then-is_empty-via-then-is_empty, then-is_empty-via-else-is_empty+then-text-gt-MOST_DIGITS}

pub returns-then-is_empty : goal.returns-then-is_empty
returns-then-is_empty c = elim c.then-is_empty.branch [
  | then-is_empty-via-then-is_empty w ↦
      let none : length c.args.text.now ≡ 0 = search rules in
      sym (number_of-empty c.args.text.now none)
  | then-is_empty-via-else-is_empty+then-text-gt-MOST_DIGITS w ↦ sym (number_of-long c.args.text.now (omega arith))
]

pub returns-in-None : goal.returns-in-None
returns-in-None c = sym (Writes-stops c.args.text.now c.loop-digit.digit-index c.loop-digit.number _ (omega arith) refl (sym c.in-None.is ∙ c.with_digit.ensures) c.loop-digit.invariant)

pub loop-digit-preserved : goal.loop-digit-preserved
loop-digit-preserved c = Writes-more c.args.text.now c.loop-digit.digit-index c.loop-digit.number _ c.in-Some.more (omega arith) refl (sym c.in-Some.is ∙ c.with_digit.ensures) c.loop-digit.invariant

pub returns : goal.returns
returns c =
    let some : length c.args.text.now ≢ 0 = search rules in
    sym (Writes-all c.args.text.now c.loop-digit.digit-index c.loop-digit.number some (omega arith) (omega arith) c.loop-digit.invariant)
