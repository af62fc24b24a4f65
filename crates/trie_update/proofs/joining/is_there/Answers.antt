use Rattle.std.proofs.Common.{None, is_some, slice_index_or, ap, ap₂, sym, ◌∙◌}
use Rattle.update_model.specs.Joins.{is_there}
use Rattle.trie_update.specs.Formers.{names_of}
use Rattle.trie_update.specs.Subs.{kid_of}
use Rattle.trie_update.proofs.Children.{kept-there}
use Rattle.trie_update.proofs.joining.is_there.Goals as goal

pub returns-in-Some : goal.returns-in-Some
returns-in-Some c =
    c.is_some.ensures ∙ ap is_some c.get.ensures.value ∙ kept-there (slice_index_or c.in-Some.branch.now.kids.now c.args.nibble None)
    ∙ sym (ap₂ (λ former child. is_there (kid_of (names_of former c.args.nibble) child)) c.in-Some.is c.in-Kept.is)

pub returns-in-None : goal.returns-in-None
unfolding is_there
returns-in-None c = sym (ap₂ (λ former child. is_there (kid_of (names_of former c.args.nibble) child)) c.in-None.is c.in-Kept.is)
