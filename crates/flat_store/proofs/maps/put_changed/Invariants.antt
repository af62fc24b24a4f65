use Rattle.std.proofs.Common.{◌≡◌, Some}
use Rattle.std.specs.List.{AllByRecursion}
use Rattle.batch_model.specs.Changes.{after}
use Rattle.flat_store.specs.Kept.{changes_of, held}
use Rattle.flat_store.proofs.Filling.{IsFilled}
use Rattle.flat_store.proofs.maps.put_changed.Given as goal

abbrev pub invariant-loop-key : goal.invariant-loop-key
invariant-loop-key l =
    IsFilled (after l.initial.pairs.state (changes_of l.fn.newest.entries)) l.pairs.state l.key-iterator × AllByRecursion (λ e. held l.fn.newest.entries e.0.items ≡ Some e.1) l.key-iterator × (l.pairs.most ≡ l.initial.pairs.most)
