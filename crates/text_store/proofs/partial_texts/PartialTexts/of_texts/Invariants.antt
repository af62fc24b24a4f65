use Rattle.text_store.proofs.Listing.{bytes_of}
use Rattle.text_store.proofs.Gathering.{Gathers}
use Rattle.text_store.proofs.partial_texts.PartialTexts.of_texts.Given as goal

abbrev pub invariant-loop-place : goal.invariant-loop-place
invariant-loop-place l = Gathers (bytes_of l.texts) l.place l.held.entries l.least
