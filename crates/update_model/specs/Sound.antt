-- What the changes below a place keep to, and what the top of a trie at a depth does.
use Rattle.std.specs.Prelude.{◌≢◌, ℕ, ◌+◌, ◌≤◌, List, [], length, map, IfSome, ⊤}
use Rattle.std.specs.List.{AllByRecursion}
use Rattle.std.specs.List.Sorted.{IsStrictlySortedBy}
use Rattle.std.specs.Ordering.{nat_cmp}
use Rattle.std.specs.Cmp.Lexicographic.{slice_cmp}
use Rattle.byte_model.specs.Nibbles.{AreNibbles}
use Rattle.byte_model.specs.PackedPath.{longest_path}
use Rattle.byte_model.specs.Node.{longest_value}
use Rattle.batch_model.specs.Changes.{Change}
use Rattle.update_model.specs.Tops.{Top, empty, leaf, branch, extension}

-- a change of a key that goes on below a depth
pub record IsBelow (depth : ℕ) (change : Change) : Type 0 where
  pub nibbles : AreNibbles change.0
  pub short : depth + length change.0 ≤ longest_path
  pub value : IfSome change.1 (λ v. length v ≤ longest_value)

-- each path stands before those of later changes, a prefix first
abbrev pub Rises : List Change → Type 0
Rises changes = IsStrictlySortedBy (slice_cmp nat_cmp) (map (λ change. change.0) changes)

-- some of them, by rising path, each path once
pub record AreBelow (depth : ℕ) (changes : List Change) : Type 0 where
  pub rise : Rises changes
  pub each : AllByRecursion (IsBelow depth) changes

-- a top whose record can be made at a depth
unfoldable pub StandsAt : ℕ → Top → Type 0
StandsAt depth empty = ⊤
StandsAt depth (leaf path ref) = AreNibbles path × (depth + length path ≤ longest_path) × (ref.length ≤ longest_value)
StandsAt depth (branch digest used) = depth ≤ longest_path
StandsAt depth (extension path child used) = AreNibbles path × (depth + length path ≤ longest_path) × (path ≢ [])
