use Rattle.flat_store.proofs.Noting.{noted-step}
use Rattle.flat_store.proofs.maps.note_rows.Goals as goal

pub loop-row-preserved : goal.loop-row-preserved
loop-row-preserved c = noted-step _ _ _ c.args.rows.now c.loop-row.row-index _ c.loop-row-test.true c.loop-row.invariant c.in_ok-note_row.ensures
