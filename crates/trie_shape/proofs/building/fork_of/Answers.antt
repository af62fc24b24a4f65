use Rattle.std.proofs.Common.{Err, ap, ◌∙◌, arith}
use Rattle.trie_shape.proofs.Shows.{rows-shown}
use Rattle.trie_shape.proofs.building.fork_of.Goals as goal

pub returns-in-Ok : goal.returns-in-Ok
returns-in-Ok c = λ rows is. rows-shown c.in-Ok.closed rows is.fork (c.in-Ok.ensures.rows rows is)

pub unreachable-requires : goal.unreachable-requires
unreachable-requires c =
    let past = c.close_branch.ensures.usage.0 (c.in-Err-Usage.is ∙ ap Err c.in-Err-Usage.field-0-is) in
    let fits = c.requires.fits in
    absurd (omega arith)
