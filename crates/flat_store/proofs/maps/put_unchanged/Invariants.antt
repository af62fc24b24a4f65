use Rattle.std.proofs.Common.{◌≡◌, Some}
use Rattle.std.specs.List.{AllByRecursion}
use Rattle.flat_store.specs.Kept.{held, unchanged}
use Rattle.flat_store.proofs.Filling.{IsFilled}
use Rattle.flat_store.proofs.maps.put_unchanged.Given as goal

abbrev pub invariant-loop-key : goal.invariant-loop-key
invariant-loop-key l =
    IsFilled (unchanged l.head.entries l.newest.entries) l.pairs.state l.key-iterator × AllByRecursion (λ e. held l.head.entries e.0.items ≡ Some e.1) l.key-iterator × (l.pairs.most ≡ l.initial.pairs.most)
