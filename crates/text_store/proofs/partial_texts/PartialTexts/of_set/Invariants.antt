use Rattle.partial_model.specs.Texts.{texts_in}
use Rattle.text_store.proofs.Setting.{Sets}
use Rattle.text_store.proofs.partial_texts.PartialTexts.of_set.Given as goal

abbrev pub invariant-loop-bytes : goal.invariant-loop-bytes
invariant-loop-bytes l = Sets (texts_in l.fn.set) l.held.entries l.bytes-iterator
