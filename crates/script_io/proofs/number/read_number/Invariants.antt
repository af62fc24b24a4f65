use Rattle.script_io.proofs.Numbers.{Writes}
use Rattle.script_io.proofs.number.read_number.Given as goal

abbrev pub invariant-loop-digit : goal.invariant-loop-digit
invariant-loop-digit l = Writes l.text l.digit-index l.number
