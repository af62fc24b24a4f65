use Rattle.std.proofs.Common.{arith}
use Rattle.std.proofs.lemmas.Option.{slice_get-get_or}
use Rattle.fork_tree.proofs.Before.{prev-before, prev-id, prev-there}
use Rattle.fork_tree.proofs.Cuts.{linked-over}
use Rattle.fork_tree.proofs.links.links_at.Goals as goal

pub unreachable-requires : goal.unreachable-requires
unreachable-requires c =
    prev-there _ _ c.requires.tree c.requires.placed c.args.place _ (slice_get-get_or c.args.blocks.now c.args.place _ c.requires.within) (omega (arith, c.if-place-eq0.false)) c.in_default.ensures.value

pub links_over-requires-clause-linked : goal.links_over-requires-clause-linked
links_over-requires-clause-linked c = λ place block counted at.
    let earlier = prev-before _ _ c.requires.tree c.requires.placed c.args.place _ (slice_get-get_or c.args.blocks.now c.args.place _ c.requires.within) (omega (arith, c.if-place-eq0.false)) _ c.in-Some.ensures.value in
    c.requires.linked place block (omega (arith, counted, earlier)) at

pub links_over-requires-clause-within : goal.links_over-requires-clause-within
links_over-requires-clause-within c =
    let earlier = prev-before _ _ c.requires.tree c.requires.placed c.args.place _ (slice_get-get_or c.args.blocks.now c.args.place _ c.requires.within) (omega (arith, c.if-place-eq0.false)) _ c.in-Some.ensures.value in
    omega (arith, earlier, c.requires.within)

pub returns : goal.returns
returns c =
    let there = slice_get-get_or c.args.blocks.now c.args.place _ c.requires.within in
    linked-over c.args.blocks.now c.requires.tree c.args.place c.in-Some.before.now c.links_over.result c.requires.within
    (prev-before _ _ c.requires.tree c.requires.placed c.args.place _ there (omega (arith, c.if-place-eq0.false)) _ c.in-Some.ensures.value)
    (prev-id _ _ c.requires.tree c.requires.placed c.args.place _ there (omega (arith, c.if-place-eq0.false)) _ c.in-Some.ensures.value)
    c.links_over.ensures.before c.links_over.ensures.back c.links_over.ensures.cut
