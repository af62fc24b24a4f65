use Rattle.std.proofs.Common.{sym}
use Rattle.flat_store.proofs.Ways.{gathered-all, gathered-start, gathered-step, shorter}
use Rattle.flat_store.proofs.maps.note_way.Goals as goal

pub loop-prev-init : goal.loop-prev-init
loop-prev-init c = gathered-start _ _ _ _ c.requires.live c.requires.changes

pub loop-prev-smaller : goal.loop-prev-smaller
loop-prev-smaller c = shorter c.args.forks.now.tree c.loop-prev.at.0 c.in-Some.prev.0 c.requires.tree (sym c.in-Some.ensures)

pub loop-prev-preserved : goal.loop-prev-preserved
loop-prev-preserved c = gathered-step _ _ _ _ _ _ _ _ c.requires.tree c.loop-prev.invariant (sym c.in-Some.ensures) c.in_ok-note_block.ensures.ok c.in_ok-note_block.ensures.changes

pub returns-clause-ok : goal.returns-clause-ok
returns-clause-ok c = gathered-all _ _ _ _ _ _ c.requires.tree c.loop-prev.invariant (sym c.in_default.ensures)
