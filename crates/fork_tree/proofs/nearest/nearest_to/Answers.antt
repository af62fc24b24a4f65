use Rattle.std.proofs.Common.{◌≡◌, List, ℕ, map, drop, sym, subst, arith}
use Rattle.base_core.specs.declared.hash.Digest.{Digest}
use Rattle.fork_tree.specs.Kept.{id_at, tree_of}
use Rattle.fork_tree.specs.Nearest.{IsNearest, IsSearch}
use Rattle.fork_tree.proofs.Searching.{last-first, none-left, search-end, search-start}
use Rattle.fork_tree.proofs.nearest.nearest_to.Goals as goal

pub loop-left-init : goal.loop-left-init
loop-left-init c = (
  omega arith,
  subst (λ (met : List (List ℕ)). IsSearch c.args.blocks.now c.args.start met (record { at = c.args.start; reach = c.args.start; nearest = 0 })) (sym (none-left c.args.ids.now)) (search-start c.args.blocks.now c.args.places.now.entries c.requires.kept c.args.start c.requires.within),
)

pub loop-left-preserved : goal.loop-left-preserved
loop-left-preserved c = (
  omega (arith, c.loop-left.invariant.0),
  subst (λ (met : List (List ℕ)). IsSearch c.args.blocks.now c.args.start met c.meet-search.result) (sym (last-first c.args.ids.now c.loop-left.left _ c.loop-left-test.true c.loop-left.invariant.0)) (c.meet-search.ensures _ c.loop-left.invariant.1),
)

pub returns-clause-within : goal.returns-clause-within
returns-clause-within c = c.loop-left.invariant.1.there

pub returns-clause-nearest : goal.returns-clause-nearest
returns-clause-nearest c =
    let none : c.loop-left.left ≡ 0 = omega (arith, c.loop-left-test.false) in
    subst (λ left. IsNearest (tree_of c.args.blocks.now) (map (λ (id : Digest). id.0) (drop left c.args.ids.now)) (id_at c.args.blocks.now c.args.start) (id_at c.args.blocks.now c.loop-left.search.nearest)) none
    (search-end c.args.blocks.now c.args.places.now.entries c.requires.kept c.args.start _ c.loop-left.search (omega (arith, c.requires.within)) c.loop-left.invariant.1)
