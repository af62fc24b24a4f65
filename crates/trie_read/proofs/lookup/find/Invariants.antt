use Rattle.std.proofs.Common.{[], length, ◌-◌}
use Rattle.byte_model.specs.Nibbles.{nibbles}
use Rattle.visit_model.specs.Seen.{seen}
use Rattle.visit_model.specs.Steps.{lookup_steps}
use Rattle.trie_read.proofs.LookupProgress.{IsAt}
use Rattle.trie_read.proofs.lookup.find.Given as goal

abbrev pub invariant-loop-error : goal.invariant-loop-error
invariant-loop-error g l = IsAt g.T.Texts.store l.fn.store l.store (g.T.Texts.store.texts l.fn.store) (lookup_steps (seen (g.T.Texts.store.texts l.fn.store) l.fn.root.0) [] (nibbles l.key)) (nibbles l.key) l.digest.0 l.depth l.after_extension

abbrev pub decreases-loop-error : goal.decreases-loop-error
decreases-loop-error g l = length (nibbles l.key) - l.depth
