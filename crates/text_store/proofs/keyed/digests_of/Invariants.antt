use Rattle.std.proofs.Common.{◌≡◌, ◌++◌, map, drop}
use Rattle.sha2.specs.Sha256.{sha256}
use Rattle.text_store.proofs.Listing.{bytes_of}
use Rattle.text_store.proofs.Naming.{names_of}
use Rattle.text_store.proofs.keyed.digests_of.Given as goal

abbrev pub invariant-loop-text : goal.invariant-loop-text
invariant-loop-text l = names_of l.digests.items ++ map sha256 (drop l.text-index (bytes_of l.texts)) ≡ map sha256 (bytes_of l.texts)
