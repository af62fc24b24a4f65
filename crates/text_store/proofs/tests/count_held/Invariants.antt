use Rattle.std.proofs.Common.{◌≤◌}
use Rattle.text_store.proofs.Walked.{IsWalked}
use Rattle.text_store.proofs.tests.count_held.Given as goal

abbrev pub invariant-loop-d : goal.invariant-loop-d
invariant-loop-d g l = IsWalked g.T.Texts.store l.fn.store l.store l.d-index × (l.count ≤ l.d-index)
