-- The changes below a place, as the model asks for them.
use Rattle.std.proofs.Common.{ℕ, ◌≤◌, ◌<◌, List, [], ◌∷◌, length, Option, None, Some, IfSome, arith}
use Rattle.std.specs.Borrow.{Bor}
use Rattle.std.specs.List.{AllByRecursion}
use Rattle.std.proofs.lemmas.List.{length-drop}
use Rattle.byte_model.specs.Nibbles.{nibbles}
use Rattle.byte_model.specs.Node.{longest_value}
use Rattle.byte_model.proofs.Lists.{AllByRecursion-drop}
use Rattle.update_model.specs.Sound.{IsBelow, AreBelow}
use Rattle.trie_update.specs.ChangesAt.{AreChangesAt, IsChangeAt, Lent, changes_at, value_lent}

small_value : (value : Option (Bor (List ℕ))) → IfSome value (λ v. length v.now ≤ longest_value) → IfSome (value_lent value) (λ v. length v ≤ longest_value)
small_value None h = tt
small_value (Some v) h = h

each_below : (depth : ℕ) (changes : List Lent) → AllByRecursion (IsChangeAt depth) changes → AllByRecursion (IsBelow depth) (changes_at depth changes)
each_below depth [] h = tt
each_below depth (change ∷ changes) h =
    let left = length-drop depth (nibbles change.0.now) in
    let deep = h.0.deep in
    let short = h.0.short in
    (record { nibbles = AllByRecursion-drop (λ nibble. nibble < 16) depth (nibbles change.0.now) h.0.nibbles; short = omega arith; value = small_value change.1 h.0.value }, each_below depth changes h.1)

pub below-changes_at : (depth : ℕ) (changes : List Lent) → AreChangesAt depth changes → AreBelow depth (changes_at depth changes)
below-changes_at depth changes h = record { rise = h.rises; each = each_below depth changes h.each }
