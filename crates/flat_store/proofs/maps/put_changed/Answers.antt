use Rattle.std.proofs.Common.{◌≤◌, ℕ, length, refl, ap, subst, ◌∙◌}
use Rattle.std.specs.FinMap.{entries}
use Rattle.base_core.specs.PairMaps.{PairMap}
use Rattle.flat_store.proofs.Filling.{filled-all}
use Rattle.flat_store.proofs.Puts.{all-of, changed-full, changed-pair, changed-put, changed-rest, changed-skip, changed-start, passed_on}
use Rattle.flat_store.proofs.maps.put_changed.Goals as goal

pub loop-key-init : goal.loop-key-init
loop-key-init c = (
  changed-start _ _ _ c.into_iter-key-iterator.ensures.into_iter_gives.0 c.requires.new,
  all-of _ _ c.into_iter-key-iterator.ensures.into_iter_gives.0 c.into_iter-key-iterator.ensures.into_iter_gives.4,
  refl,
)

pub loop-key-preserved-in_default : goal.loop-key-preserved-in_default
loop-key-preserved-in_default c = (
  changed-skip _ _ _ _ _ _ _ c.in-Some.ensures.steps c.loop-key.invariant.0 c.loop-key.invariant.1 c.in_default.is,
  changed-rest _ _ _ _ _ _ _ c.in-Some.ensures.steps c.loop-key.invariant.0 c.loop-key.invariant.1,
  c.loop-key.invariant.2,
)

pub put-requires : goal.put-requires
put-requires c = record { pair = changed-pair _ _ _ _ _ _ _ c.in-Some.ensures.steps c.loop-key.invariant.0 c.loop-key.invariant.1 c.in-Some-value.value c.from_bytes.result c.in-Some-value.is c.from_bytes.ensures c.requires.changes }

pub loop-key-preserved : goal.loop-key-preserved
loop-key-preserved c = (
  changed-put _ _ _ _ _ _ _ c.in-Some.ensures.steps c.loop-key.invariant.0 c.loop-key.invariant.1 c.in-Some-value.value c.from_bytes.result _ c.in-Some-value.is c.from_bytes.ensures (ap (λ (m : PairMap). m.state) c.in_ok-put.ensures.ok),
  changed-rest _ _ _ _ _ _ _ c.in-Some.ensures.steps c.loop-key.invariant.0 c.loop-key.invariant.1,
  ap (λ (m : PairMap). m.most) c.in_ok-put.ensures.ok ∙ c.loop-key.invariant.2,
)

pub returns-in_err-put-clause-full : goal.returns-in_err-put-clause-full
returns-in_err-put-clause-full c = λ full.
    let bound = c.in_err-put.ensures.full (passed_on c.from_residual.result c.in_err-put.field-0.0 _ c.from_residual.ensures.1 full) in
    changed-full _ _ _ _ _ _ _ c.in-Some.ensures.steps c.loop-key.invariant.0 c.loop-key.invariant.1 c.in-Some-value.value c.from_bytes.result c.args.pairs.now.most c.in-Some-value.is c.from_bytes.ensures bound.1
    (subst (λ (m : ℕ). m ≤ length (entries c.loop-key.pairs.state)) c.loop-key.invariant.2 bound.0)

pub returns-clause-ok : goal.returns-clause-ok
returns-clause-ok c = filled-all _ _ _ c.loop-key.invariant.0 c.in-None.ensures.steps.0
