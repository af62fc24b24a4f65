use Rattle.std.proofs.Common.{map}
use Rattle.text_store.proofs.Order.{NoFallUpTo}
use Rattle.text_store.proofs.partial_reading.fall_among.Given as goal

abbrev pub invariant-loop-place : goal.invariant-loop-place
invariant-loop-place l = NoFallUpTo (map (λ text. text.now) l.texts) l.place
