-- Rows in order and their first nibbles: the runs of rows that go on with one nibble, and what all rows share.
use Rattle.std.specs.Prelude.{◌≡◌, ℕ, suc, ◌≤◌, ◌==◌, Bool, false, List, [], ◌∷◌, length, map, drop, if◌then◌else◌}
use Rattle.std.specs.List.{AllByRecursion}
use Rattle.std.specs.List.Sorted.{IsStrictlySortedBy}
use Rattle.std.specs.Ordering.{nat_cmp}
use Rattle.std.specs.Cmp.Lexicographic.{slice_cmp}
use Rattle.trie_model.specs.State.{Row}
use Rattle.trie_model.specs.Tree.{common_prefix}

-- each path stands before those of later rows, a prefix first
abbrev pub Rises : List Row → Type 0
Rises rows = IsStrictlySortedBy (slice_cmp nat_cmp) (map (λ row. row.0) rows)

-- each path has a nibble, and the first is at least x
abbrev pub StartsFrom : ℕ → List ℕ → Type 0
StartsFrom x [] = ⊥
StartsFrom x (y ∷ path) = x ≤ y

abbrev pub AllFrom : ℕ → List Row → Type 0
AllFrom x rows = AllByRecursion (λ row. StartsFrom x row.0) rows

-- a path goes on with the nibble x
abbrev pub goes_on : ℕ → List ℕ → Bool
goes_on x [] = false
goes_on x (y ∷ path) = x == y

-- how many rows from the start on go on with the nibble x
unfoldable pub run_of : ℕ → List Row → ℕ
run_of x [] = 0
run_of x (row ∷ rows) = if goes_on x row.0 then suc (run_of x rows) else 0

-- the rows without their first nibbles
abbrev pub tails : List Row → List Row
tails rows = map (λ row. (drop 1 row.0, row.1)) rows

-- the common prefix of rows, and nothing of no row
abbrev pub prefix_of : List Row → List ℕ
prefix_of [] = []
prefix_of (row ∷ rows) = common_prefix row rows

-- several rows that share no nibble, so that their trie is a branch
pub record DoFork (rows : List Row) : Type 0 where
  pub several : 2 ≤ length rows
  pub apart : prefix_of rows ≡ []
