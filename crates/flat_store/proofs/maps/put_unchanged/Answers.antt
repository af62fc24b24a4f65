use Rattle.std.proofs.Common.{◌≤◌, ℕ, length, refl, ap, subst, ◌∙◌}
use Rattle.std.specs.FinMap.{entries}
use Rattle.base_core.specs.PairMaps.{PairMap}
use Rattle.flat_store.proofs.Filling.{filled-all}
use Rattle.flat_store.proofs.Puts.{all-of, unchanged-full, unchanged-pair, unchanged-put, unchanged-rest, unchanged-skip, unchanged-start, passed_on}
use Rattle.flat_store.proofs.maps.put_unchanged.Goals as goal

pub loop-key-init : goal.loop-key-init
loop-key-init c = (
  unchanged-start _ _ _ _ c.requires.none c.into_iter-key-iterator.ensures.into_iter_gives.0,
  all-of _ _ c.into_iter-key-iterator.ensures.into_iter_gives.0 c.into_iter-key-iterator.ensures.into_iter_gives.4,
  refl,
)

pub loop-key-preserved-then-contains_key : goal.loop-key-preserved-then-contains_key
loop-key-preserved-then-contains_key c = (
  unchanged-skip _ _ _ _ _ _ _ c.in-Some.ensures.steps c.loop-key.invariant.0 c.loop-key.invariant.1 c.contains_key.result c.if-contains_key.true c.contains_key.ensures,
  unchanged-rest _ _ _ _ _ _ _ c.in-Some.ensures.steps c.loop-key.invariant.0 c.loop-key.invariant.1,
  c.loop-key.invariant.2,
)

pub put-requires : goal.put-requires
put-requires c = record {
  pair = unchanged-pair _ _ _ _ _ _ _ c.in-Some.ensures.steps c.loop-key.invariant.0 c.loop-key.invariant.1 c.in_ok-value.value c.in_ok-key.key (c.in_ok-value.ensures.copy ∙ c.as_slice-in-loop-key.ensures) (c.in_ok-key.ensures.copy ∙ c.as_slice.ensures.value)
      c.requires.pairs;
}

pub loop-key-preserved : goal.loop-key-preserved
loop-key-preserved c = (
  unchanged-put _ _ _ _ _ _ _ c.in-Some.ensures.steps c.loop-key.invariant.0 c.loop-key.invariant.1 c.in_ok-value.value c.in_ok-key.key _ c.contains_key.result c.if-contains_key.false c.contains_key.ensures
      (c.in_ok-value.ensures.copy ∙ c.as_slice-in-loop-key.ensures) (c.in_ok-key.ensures.copy ∙ c.as_slice.ensures.value) (ap (λ (m : PairMap). m.state) c.in_ok-put.ensures.ok),
  unchanged-rest _ _ _ _ _ _ _ c.in-Some.ensures.steps c.loop-key.invariant.0 c.loop-key.invariant.1,
  ap (λ (m : PairMap). m.most) c.in_ok-put.ensures.ok ∙ c.loop-key.invariant.2,
)

pub returns-in_err-put-clause-full : goal.returns-in_err-put-clause-full
returns-in_err-put-clause-full c = λ full.
    let bound = c.in_err-put.ensures.full (passed_on c.from_residual-in_err-put.result c.in_err-put.field-0.0 _ c.from_residual-in_err-put.ensures.1 full) in
    unchanged-full _ _ _ _ _ _ _ c.in-Some.ensures.steps c.loop-key.invariant.0 c.loop-key.invariant.1 c.in_ok-key.key c.args.pairs.now.most c.contains_key.result c.if-contains_key.false c.contains_key.ensures
    (c.in_ok-key.ensures.copy ∙ c.as_slice.ensures.value) bound.1 (subst (λ (m : ℕ). m ≤ length (entries c.loop-key.pairs.state)) c.loop-key.invariant.2 bound.0)

pub returns-clause-ok : goal.returns-clause-ok
returns-clause-ok c = filled-all _ _ _ c.loop-key.invariant.0 c.in-None.ensures.steps.0
