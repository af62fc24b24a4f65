use Rattle.text_store.proofs.Listing.{IsListing}
use Rattle.text_store.proofs.partial_reading.read_counted.Given as goal

abbrev pub invariant-loop : goal.invariant-loop
invariant-loop l = IsListing l.fn.reader l.count l.texts.items l.counter l.reader
