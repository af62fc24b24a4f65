use Rattle.change_model.specs.Visits.{numbers_below}
use Rattle.update_model.specs.Joins.{is_there}
use Rattle.trie_update.specs.Formers.{names_of}
use Rattle.trie_update.specs.Subs.{IsFew, kid_at}
use Rattle.trie_update.proofs.joining.count_few.Given as goal

abbrev pub invariant-loop-nibble : goal.invariant-loop-nibble
invariant-loop-nibble l = IsFew (numbers_below (λ x. is_there (kid_at (names_of l.former) l.children x)) l.nibble) l.few
