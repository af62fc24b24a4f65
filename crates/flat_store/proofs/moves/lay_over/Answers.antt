use Rattle.std.proofs.Common.{sym, ◌∙◌}
use Rattle.flat_store.proofs.Laying.{laying-end, laying-start, laying-step}
use Rattle.flat_store.proofs.moves.lay_over.Goals as goal

pub loop-key-init : goal.loop-key-init
loop-key-init c = laying-start _ _ _ c.requires.pairs

pub loop-key-preserved : goal.loop-key-preserved
loop-key-preserved c = laying-step _ _ _ _ _ _ _ _ _ (c.in-Some.key, c.in-Some.value) c.loop-key.invariant c.in-Some.ensures.changes c.lay.ensures.head c.lay.ensures.pairs c.lay.ensures.room

pub returns-clause-head : goal.returns-clause-head
returns-clause-head c = sym (laying-end _ _ _ _ _ _ c.loop-key.invariant (c.in_default.ensures.changes ∙ c.in_default.ensures.none))
