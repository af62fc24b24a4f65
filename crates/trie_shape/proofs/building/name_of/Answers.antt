use Rattle.std.proofs.Common.{Err, ap, ◌∙◌, arith}
use Rattle.trie_shape.proofs.building.name_of.Goals as goal

pub unreachable-requires : goal.unreachable-requires
unreachable-requires c =
    let past = c.name.ensures.usage.0 (c.in-Err-Usage.is ∙ ap Err c.in-Err-Usage.field-0-is) in
    let fits = c.requires.fits in
    absurd (omega arith)
