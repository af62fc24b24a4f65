use Rattle.std.proofs.Common.{arith}
use Rattle.flat_store.specs.Kept.{deltas_of}
use Rattle.flat_store.proofs.Passing.{keys-all, keys-more}
use Rattle.flat_store.proofs.moves.keys_in.Goals as goal

pub overflow_add-keys : goal.overflow_add-keys
overflow_add-keys c = omega (arith, c.loop-place.invariant, c.loop-place-test.true, c.keys_under-keys.ensures, c.requires, c.len-place-end.ensures)

pub loop-place-preserved : goal.loop-place-preserved
loop-place-preserved c = (
  omega (arith, c.loop-place.invariant.0, c.keys_under-keys.ensures.keys, keys-more (deltas_of c.args.deltas.now.entries) c.args.ids.now c.loop-place.place c.at.result.0 c.at.ensures),
  omega (arith, c.loop-place.invariant.1, c.keys_under-keys.ensures.bound),
  omega (arith, c.loop-place-test.true, c.len-place-end.ensures),
)

pub returns : goal.returns
returns c = omega (arith, c.loop-place.invariant.0, keys-all (deltas_of c.args.deltas.now.entries) c.args.ids.now c.loop-place.place (omega (arith, c.loop-place-test.false, c.len-place-end.ensures)))
