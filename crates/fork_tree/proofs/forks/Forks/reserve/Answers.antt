use Rattle.std.proofs.Common.{length, sym, ap, subst, arith}
use Rattle.fork_tree.specs.Kept.{IsKept}
use Rattle.fork_tree.proofs.Kept.{kept-same}
use Rattle.fork_tree.proofs.forks.Forks.reserve.Goals as goal

pub invariant_of-self-2 : goal.invariant_of-self-2
invariant_of-self-2 c =
    let same = ap length c.reserve.ensures.items in
    record {
      kept = subst (λ blocks. IsKept blocks c.reserve-2.new.self.entries) (sym c.reserve.ensures.items) (kept-same _ _ _ c.self.invariant.kept (λ q. c.reserve-2.ensures.entries.2 (record { 0 = q })));
      bounded = omega (arith, same, c.self.invariant.bounded);
    }
