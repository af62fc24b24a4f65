use Rattle.std.proofs.Common.{◌≡◌, ◌++◌, map, reverse, sym, ◌∙◌, ap, subst, arith}
use Rattle.base_core.specs.declared.hash.Digest.{Digest}
use Rattle.fork_model.specs.Trees.{line}
use Rattle.fork_tree.specs.Kept.{id_at, tree_of}
use Rattle.fork_tree.proofs.Apart.{line-back, line-whole}
use Rattle.fork_tree.proofs.plans.line_to.Goals as goal

pub loop-at-preserved : goal.loop-at-preserved
loop-at-preserved c = (
  omega (arith, c.place_before-at.ensures.earlier, c.loop-at.invariant.0),
  line-back c.args.blocks.now c.requires.tree c.loop-at.at c.place_before-at.result _ _ c.loop-at.ids.items c.loop-at.invariant.0 (omega (arith, c.loop-at-test.true)) c.place_before-at.ensures.prev c.loop-at.invariant.1
      ∙ ap (λ ids. line (tree_of c.args.blocks.now) (id_at c.args.blocks.now c.place_before-at.result) ++ reverse (map (λ (k : Digest). k.0) ids)) (sym c.in_ok-push.ensures.items),
)

pub returns : goal.returns
returns c =
    let at_head : c.loop-at.at ≡ 0 = omega (arith, c.loop-at-test.false) in
    let before = subst (λ at. line (tree_of c.args.blocks.now) (id_at c.args.blocks.now c.args.place) ≡ line (tree_of c.args.blocks.now) (id_at c.args.blocks.now at) ++ reverse (map (λ (k : Digest). k.0) c.loop-at.ids.items)) at_head c.loop-at.invariant.1 in
    ap (map (λ (k : Digest). k.0)) (c.reverse.ensures.items ∙ ap reverse c.in_ok-push-2.ensures.items)
    ∙ line-whole c.args.blocks.now c.requires.tree _ _ c.loop-at.ids.items (omega (arith, c.requires.within)) before
