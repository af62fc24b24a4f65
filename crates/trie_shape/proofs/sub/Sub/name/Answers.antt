use Rattle.std.proofs.Common.{None, Some, rules}
use Rattle.trie_shape.proofs.Shows.{name-shown, name-closed}
use Rattle.trie_shape.proofs.sub.Sub.name.Goals as goal

pub returns-in-Empty-clause-shows : goal.returns-in-Empty-clause-shows
returns-in-Empty-clause-shows c = name-shown c.args.self (None, 0) (search rules) (search rules)

pub returns-in-Branch-clause-shows : goal.returns-in-Branch-clause-shows
returns-in-Branch-clause-shows c = name-shown c.args.self (Some c.in-Branch.digest, c.in-Branch.usage) (search rules) (search rules)

pub returns-in-Ok-Some-clause-digest : goal.returns-in-Ok-Some-clause-digest
returns-in-Ok-Some-clause-digest c =
    let none = rw c.in-Ok-Some.field-0-is at c.in-Ok-Some.ensures.none in
    let written = rw c.in-Ok-Some.field-0-is at c.in-Ok-Some.ensures.written in
    (name-closed c.args.self c.in-Ok-Some.closed none written).digest

pub returns-in-Ok-Some-clause-used : goal.returns-in-Ok-Some-clause-used
returns-in-Ok-Some-clause-used c =
    let none = rw c.in-Ok-Some.field-0-is at c.in-Ok-Some.ensures.none in
    let written = rw c.in-Ok-Some.field-0-is at c.in-Ok-Some.ensures.written in
    (name-closed c.args.self c.in-Ok-Some.closed none written).usage

pub returns-in-Ok-Some-clause-shows : goal.returns-in-Ok-Some-clause-shows
returns-in-Ok-Some-clause-shows c =
    let none = rw c.in-Ok-Some.field-0-is at c.in-Ok-Some.ensures.none in
    let written = rw c.in-Ok-Some.field-0-is at c.in-Ok-Some.ensures.written in
    let named = name-closed c.args.self c.in-Ok-Some.closed none written in
    name-shown c.args.self (Some c.in-Ok-Some.closed.digest, c.in-Ok-Some.closed.usage) named.digest named.usage
