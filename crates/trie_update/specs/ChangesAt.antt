-- Changed keys in their order, each with what it becomes, as the rows that change_model speaks of, from some nibble of the keys on.
pub use Rattle.update_model.specs.Sound.{Rises}
use Rattle.std.specs.Prelude.{◌≡◌, ℕ, true, ◌≤◌, List, [], ◌∷◌, map, drop, take, length, slice_index_or, Option, IfSome, suc, if◌then◌else◌}
use Rattle.std.specs.Option.{option_map}
use Rattle.std.specs.Borrow.{Bor}
use Rattle.std.specs.List.{AllByRecursion}
use Rattle.byte_model.specs.Nibbles as path
use Rattle.byte_model.specs.Nibbles.{AreNibbles}
use Rattle.byte_model.specs.PackedPath.{longest_path}
use Rattle.byte_model.specs.Node.{longest_value}
use Rattle.trie_model.specs.Grown.{HasPrefix}
use Rattle.batch_model.specs.Changes.{Change}
use Rattle.change_model.specs.Visits.{changes_behind}
use Rattle.trie_shape.specs.Runs.{StartsFrom, goes_on}

-- ---- by paths

-- each path has a nibble, and the first is at least x
abbrev pub AllFrom : ℕ → List Change → Type 0
AllFrom x changes = AllByRecursion (λ change. StartsFrom x change.0) changes

-- how many changes from the start on go on with the nibble x
unfoldable pub run_of : ℕ → List Change → ℕ
run_of x [] = 0
run_of x (change ∷ changes) = if goes_on x change.0 then suc (run_of x changes) else 0

-- all paths begin with a prefix
abbrev pub AllBegin : List ℕ → List Change → Type 0
AllBegin prefix changes = AllByRecursion (λ change. HasPrefix prefix change.0) changes

-- all paths go on with the nibble x
abbrev pub AllGoOn : ℕ → List Change → Type 0
AllGoOn x changes = AllByRecursion (λ change. goes_on x change.0 ≡ true) changes

-- ---- of keys

-- a key, and the value that it gets, or none where it is deleted
abbrev pub Lent : Type 0
Lent = Bor (List ℕ) × Option (Bor (List ℕ))

-- what a key becomes
abbrev pub value_lent : Option (Bor (List ℕ)) → Option (List ℕ)
value_lent value = option_map (λ v. v.now) value

abbrev pub change_at : ℕ → Lent → Change
change_at depth change = (drop depth (path.nibbles change.0.now), value_lent change.1)

abbrev pub changes_at : ℕ → List Lent → List Change
changes_at depth changes = map (change_at depth) changes

-- the key reaches so deep, and both are within the limits
pub record IsChangeAt (depth : ℕ) (change : Lent) : Type 0 where
  pub deep : depth ≤ length (path.nibbles change.0.now)
  pub short : length (path.nibbles change.0.now) ≤ longest_path
  pub nibbles : AreNibbles (path.nibbles change.0.now)
  pub value : IfSome change.1 (λ v. length v.now ≤ longest_value)

-- all do, and their keys rise from there on
pub record AreChangesAt (depth : ℕ) (changes : List Lent) : Type 0 where
  pub rises : Rises (changes_at depth changes)
  pub each : AllByRecursion (IsChangeAt depth) changes

-- All begin with so many nibbles of the first, from a depth on.
abbrev pub BeginAsFirst : ℕ → List Lent → ℕ → Type 0
BeginAsFirst depth changes count = (d : Lent) → AllBegin (take count (drop depth (path.nibbles (slice_index_or changes 0 d).0.now))) (changes_at depth changes)

-- What is left of changes once the one that ends here, or goes on with a nibble below x, is taken.
pub record IsLeft (x depth : ℕ) (whole rest : List Lent) : Type 0 where
  pub changes : AreChangesAt depth rest
  pub from : AllFrom x (changes_at depth rest)
  pub below : (y : ℕ) → x ≤ y → changes_behind (y ∷ []) (changes_at depth whole) ≡ changes_behind (y ∷ []) (changes_at depth rest)
  pub fewer : length rest ≤ length whole
