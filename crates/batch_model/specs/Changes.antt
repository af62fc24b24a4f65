-- Batches of changes (this project): what each changed key becomes, and the state after them.
use Rattle.std.specs.Prelude.{ℕ, ◌≤◌, nat_eq, List, [], ◌∷◌, length, map, Option, None, Some, IfSome, if◌then◌else◌}
use Rattle.std.specs.List.{AllByRecursion}
use Rattle.std.specs.Ordering.{nat_cmp}
use Rattle.std.specs.Cmp.Lexicographic.{slice_cmp, pointwise}
use Rattle.std.specs.FinMap.{FinMap, entries, insert, remove}
use Rattle.byte_model.specs.Nibbles.{AreBytes, nibbles}
use Rattle.byte_model.specs.Node.{longest_value}
use Rattle.trie_model.specs.State.{State, longest_key}

-- The keys stand in the order of their bytes, a prefix first. A key becomes a value, or `None` where it is deleted.
abbrev pub Changes : Type 0
Changes = FinMap (slice_cmp nat_cmp) (Option (List ℕ))

-- a key, and what it becomes
abbrev pub Change : Type 0
Change = List ℕ × Option (List ℕ)

-- the most keys that a batch may change
abbrev pub most_changes : ℕ
most_changes = 1048576

-- key and value are byte strings within the limits
pub record IsChange (change : Change) : Type 0 where
  pub key : AreBytes change.0
  pub key_length : length change.0 ≤ longest_key
  pub value : IfSome change.1 AreBytes
  pub value_length : IfSome change.1 (λ v. length v ≤ longest_value)

pub record AreChanges (changes : Changes) : Type 0 where
  pub each : AllByRecursion IsChange (entries changes)
  pub few : length (entries changes) ≤ most_changes

-- ---- the state after them

-- after one change
unfoldable pub after_change : State → Change → State
after_change state (key, None) = remove state key
after_change state (key, Some value) = insert state key value

-- after some, one after the other
unfoldable pub after_each : State → List Change → State
after_each state [] = state
after_each state (change ∷ changes) = after_each (after_change state change) changes

-- the state with the batch laid over
unfoldable pub after : State → Changes → State
after state changes = after_each state (entries changes)

-- what a key has after a batch, by what it becomes, if it is changed, and what it had
abbrev pub decided : Option (Option (List ℕ)) → Option (List ℕ) → Option (List ℕ)
decided None former = former
decided (Some value) former = value

-- ---- by paths

-- The changes as the trie sees them: the nibbles of each key, and what it becomes.
abbrev pub change_rows : Changes → List Change
change_rows changes = map (λ change. (nibbles change.0, change.1)) (entries changes)

-- what a list has at a path: of the first entry with that path
unfoldable pub found_at : {X : Type 0} → List ℕ → List (List ℕ × X) → Option X
found_at path [] = None
found_at path (entry ∷ rest) = if pointwise nat_eq entry.0 path then Some entry.1 else found_at path rest

-- the nibbles of the changed keys
abbrev pub changed_paths : Changes → List (List ℕ)
changed_paths changes = map (λ change. nibbles change.0) (entries changes)
