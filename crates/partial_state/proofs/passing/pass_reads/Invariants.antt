use Rattle.std.proofs.Common.{drop}
use Rattle.partial_state.proofs.Looked.{IsPassing}
use Rattle.partial_state.proofs.passing.pass_reads.Given as goal

abbrev pub invariant-loop-key : goal.invariant-loop-key
invariant-loop-key g l = IsPassing g.T.Texts.store l.fn.store l.store (g.T.Texts.store.texts l.fn.store) l.root.0 l.reads (drop l.key-index l.reads)
