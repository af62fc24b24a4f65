use Rattle.std.proofs.Common.{◌+◌, sym, ap, subst, ◌∙◌, arith}
use Rattle.shard_core.proofs.Netted.{Gathers, gathers-more, gathers-past}
use Rattle.shard_core.proofs.occurrences.gains.Goals as goal
use Rattle.shard_core.proofs.occurrences.gains.Goals.{then-text-gt0+in_ok-push, else-text-gt0}

pub loop-place-preserved : goal.loop-place-preserved
loop-place-preserved c = (
  elim c.if-text-gt0.branch [
    | then-text-gt0+in_ok-push w ↦ gathers-more c.loop-place.gains.items c.args.made.now c.loop-place.place _ c.at-text.ensures c.loop-place.invariant.0 w.if-text-gt0.true _ (ap (λ v. v.items) w.gains-is ∙ w.in_ok-push.ensures.items)
    | else-text-gt0 w ↦ subst (λ v. Gathers v.items c.args.made.now (c.loop-place.place + 1)) (sym w.gains-is) (gathers-past c.loop-place.gains.items c.args.made.now c.loop-place.place _ c.at-text.ensures c.loop-place.invariant.0 w.if-text-gt0.false)
  ],
  omega (arith, c.loop-place-test.true, c.len-place-end.ensures),
)
