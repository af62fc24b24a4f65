use Rattle.std.proofs.Common.{◌≡◌, ◌++◌, map}
use Rattle.sha2.specs.Sha256.{sha256}
use Rattle.text_store.specs.TextSets.{texts_of_keys}
use Rattle.text_store.proofs.Naming.{names_of}
use Rattle.text_store.proofs.keyed.digests_of_set.Given as goal

abbrev pub invariant-loop-text : goal.invariant-loop-text
invariant-loop-text l = names_of l.digests.items ++ map sha256 (texts_of_keys l.text-iterator) ≡ map sha256 (texts_of_keys l.texts.keys)
