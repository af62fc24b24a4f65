use Rattle.std.proofs.Common.{[], ◌∷◌, ◌++◌, ◌∙◌, ap}
use Rattle.std.specs.Str.{bytes_eq}
use Rattle.fork_model.proofs.Told.{found_live}
use Rattle.fork_tree.proofs.Fates.{id_is, next-apart, next-at, off_behind, sorted-all, sorted-as, sorted-below, sorted-gone, sorted-met}
use Rattle.fork_tree.proofs.plans.dropped_by.Goals as goal
use Rattle.fork_tree.proofs.plans.dropped_by.Goals.{then-is_next+in_ok-push, else-is_next+then-index+in_ok-push-2, else-is_next+else-index+in_ok-push-3+in_ok-push-4}

pub place_before-requires-clause-behind : goal.place_before-requires-clause-behind
place_before-requires-clause-behind c =
    let b = found_live _ c.requires.live in
    let key = id_is c.args.blocks.now c.requires.tree c.args.id.now.0 b.0 b.1 c.loop-place.place _ c.loop-place-test.true in
    off_behind c.args.blocks.now c.requires.tree c.args.id.now.0 b.0 b.1 c.loop-place.place c.loop-place.met _ _ c.loop-place-test.true c.loop-place.invariant
    (next-apart _ _ c.loop-place.met _ _ _ c.requires.through key c.is_next.ensures.1 c.if-is_next.false)

pub loop-place-preserved : goal.loop-place-preserved
loop-place-preserved c =
    let b = found_live _ c.requires.live in
    let key = id_is c.args.blocks.now c.requires.tree c.args.id.now.0 b.0 b.1 c.loop-place.place _ c.loop-place-test.true in
    elim c.if-is_next.branch [
      | then-is_next+in_ok-push w ↦
          let at = next-at _ _ c.loop-place.met _ _ _ c.requires.through key c.is_next.ensures.0 w.if-is_next.true in
          let sorted = sorted-met c.args.blocks.now c.requires.tree c.args.id.now.0 b.0 b.1 c.loop-place.place c.loop-place.met _ _ c.loop-place-test.true c.loop-place.invariant at in
          sorted-as _ _ _ _ _ _ _ _ _ sorted (ap (λ v. v.items) w.descends-is ∙ w.in_ok-push.ensures.items ∙ ap (λ t. c.loop-place.descends.items ++ t ∷ []) (w.eq.ensures ∙ ap (λ k. bytes_eq k c.args.id.now.0) key)) (ap (λ v. v.items) w.dropped-is) w.met-is
      | else-is_next+then-index+in_ok-push-2 w ↦
          let apart = next-apart _ _ c.loop-place.met _ _ _ c.requires.through key c.is_next.ensures.1 w.if-is_next.false in
          let sorted = sorted-below c.args.blocks.now c.requires.tree c.args.id.now.0 b.0 b.1 c.loop-place.place w.place_before.result c.loop-place.met _ _ w.index.result.now c.loop-place-test.true c.loop-place.invariant apart w.place_before.ensures.prev w.place_before.ensures.earlier w.index.ensures w.if-index.true in
          sorted-as _ _ _ _ _ _ _ _ _ sorted (ap (λ v. v.items) w.descends-is ∙ w.in_ok-push-2.ensures.items) (ap (λ v. v.items) w.dropped-is) w.met-is
      | else-is_next+else-index+in_ok-push-3+in_ok-push-4 w ↦
          let apart = next-apart _ _ c.loop-place.met _ _ _ c.requires.through key c.is_next.ensures.1 w.if-is_next.false in
          let sorted = sorted-gone c.args.blocks.now c.requires.tree c.args.id.now.0 b.0 b.1 c.loop-place.place w.place_before.result c.loop-place.met _ _ w.index.result.now c.loop-place-test.true c.loop-place.invariant apart w.place_before.ensures.prev w.place_before.ensures.earlier w.index.ensures _ w.if-index.false key in
          sorted-as _ _ _ _ _ _ _ _ _ sorted (ap (λ v. v.items) w.descends-is ∙ w.in_ok-push-3.ensures.items) (ap (λ v. v.items) w.dropped-is ∙ w.in_ok-push-4.ensures.items) w.met-is
    ]

pub returns : goal.returns
returns c =
    let b = found_live _ c.requires.live in
    sorted-all c.args.blocks.now c.requires.tree c.args.id.now.0 b.0 b.1 c.loop-place.place c.loop-place.met _ _ c.loop-place-test.false c.loop-place.invariant
