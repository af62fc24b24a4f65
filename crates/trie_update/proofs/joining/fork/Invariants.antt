use Rattle.trie_update.specs.Formers.{names_of}
use Rattle.trie_update.proofs.Children.{IsNaming}
use Rattle.trie_update.proofs.joining.fork.Given as goal

abbrev pub invariant-loop-nibble : goal.invariant-loop-nibble
invariant-loop-nibble l = IsNaming (names_of l.fn.former) l.fn.children.items l.nibble l.rest.items l.kids l.fn.kept_usage l.usage l.fn.ledger l.ledger
