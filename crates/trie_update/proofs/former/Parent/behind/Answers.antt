use Rattle.std.proofs.Common.{◌+◌, ap, sym, subst, ◌∙◌}
use Rattle.trie_update.specs.Places.{FitsParent, place_behind}
use Rattle.trie_update.proofs.PlaceFacts.{behind-place, behind-fits}
use Rattle.trie_update.proofs.former.Parent.behind.Goals as goal

pub returns-in-Path-clause-place : goal.returns-in-Path-clause-place
unfolding place_behind
returns-in-Path-clause-place c = λ table depth fits.
    behind-place table depth c.in-Path.count c.args.nibble c.in-Path.old c.behind.result c.behind.ensures ∙ sym (ap (λ p. place_behind table depth p c.args.nibble) c.in-Path.is)

pub returns-in-Path-clause-fits : goal.returns-in-Path-clause-fits
returns-in-Path-clause-fits c = λ table depth fits.
    let stood = subst (FitsParent depth) c.in-Path.is fits in
    behind-fits table depth c.in-Path.count c.args.nibble c.in-Path.old c.behind.result c.behind.ensures stood.0 stood.1

pub returns-in-Branch-clause-place : goal.returns-in-Branch-clause-place
unfolding place_behind
returns-in-Branch-clause-place c = λ table depth fits. c.former_child.ensures.place table (depth + 1) ∙ sym (ap (λ p. place_behind table depth p c.args.nibble) c.in-Branch.is)

pub returns-in-Branch-clause-fits : goal.returns-in-Branch-clause-fits
returns-in-Branch-clause-fits c = λ table depth fits. c.former_child.ensures.fits (depth + 1)
