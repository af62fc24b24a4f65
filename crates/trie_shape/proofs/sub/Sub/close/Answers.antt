use Rattle.std.proofs.Common.{rules}
use Rattle.trie_shape.proofs.Shows.{top-shown}
use Rattle.trie_shape.proofs.sub.Sub.close.Goals as goal

pub returns-in-Ok-clause-shows : goal.returns-in-Ok-clause-shows
returns-in-Ok-clause-shows c = λ tree. top-shown c.args.self c.in-Ok.closed tree (search rules) (search rules)

pub returns-in-Ok-close_extension-clause-shows : goal.returns-in-Ok-close_extension-clause-shows
returns-in-Ok-close_extension-clause-shows c = λ tree. top-shown c.args.self c.in-Ok-close_extension.closed tree (search rules) (search rules)
