use Rattle.text_store.proofs.Order.{fall_found, no_fall, no_fall_at_all}
use Rattle.text_store.proofs.partial_reading.fall_among.Goals as goal

pub returns-then-not-rises : goal.returns-then-not-rises
returns-then-not-rises c = fall_found c.args.texts.now c.loop-place.place _ c.loop-place.auto.place c.loop-place-test.true c.loop-place.invariant c.rises.result c.if-not-rises.true c.rises.ensures

pub loop-place-preserved : goal.loop-place-preserved
loop-place-preserved c = no_fall c.args.texts.now c.loop-place.place _ c.loop-place.auto.place c.loop-place-test.true c.loop-place.invariant c.rises.result c.if-not-rises.false c.rises.ensures

pub returns : goal.returns
returns c = no_fall_at_all c.args.texts.now c.loop-place.place c.loop-place.auto.place c.loop-place-test.false c.loop-place.auto.place-end c.loop-place.invariant
