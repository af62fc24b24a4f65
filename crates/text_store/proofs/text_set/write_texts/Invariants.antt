use Rattle.text_store.proofs.Writing.{Writes}
use Rattle.text_store.proofs.text_set.write_texts.Given as goal

abbrev pub invariant-loop-text : goal.invariant-loop-text
invariant-loop-text l = Writes l.texts.keys l.writer l.text-iterator
