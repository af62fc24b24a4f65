-- Pairs in the order of their keys, as rows from some nibble of their keys on.
use Rattle.std.specs.Prelude.{◌≡◌, ℕ, ◌≤◌, List, [], ◌∷◌, map, drop, length}
use Rattle.std.specs.Borrow.{Bor}
use Rattle.std.specs.List.{AllByRecursion}
use Rattle.byte_model.specs.Nibbles as path
use Rattle.byte_model.specs.Nibbles.{AreNibbles}
use Rattle.byte_model.specs.PackedPath.{longest_path}
use Rattle.byte_model.specs.Node.{longest_value}
use Rattle.trie_model.specs.State.{Row}
use Rattle.trie_model.specs.Tree as tree
use Rattle.trie_shape.specs.Runs.{Rises, AllFrom}

-- a key and its value
abbrev pub Lent : Type 0
Lent = Bor (List ℕ) × Bor (List ℕ)

abbrev pub row_at : ℕ → Lent → Row
row_at depth row = (drop depth (path.nibbles row.0.now), row.1.now)

abbrev pub rows_at : ℕ → List Lent → List Row
rows_at depth rows = map (row_at depth) rows

-- the key reaches so deep, and both are within the limits
pub record IsRowAt (depth : ℕ) (row : Lent) : Type 0 where
  pub deep : depth ≤ length (path.nibbles row.0.now)
  pub short : length (path.nibbles row.0.now) ≤ longest_path
  pub nibbles : AreNibbles (path.nibbles row.0.now)
  pub value : length row.1.now ≤ longest_value

-- all do, and their keys rise from there on
pub record AreRowsAt (depth : ℕ) (rows : List Lent) : Type 0 where
  pub rises : Rises (rows_at depth rows)
  pub each : AllByRecursion (IsRowAt depth) rows

-- What is left of rows once those that end here, or go on with a nibble below x, are taken.
pub record IsLeft (x depth : ℕ) (whole rest : List Lent) : Type 0 where
  pub rows : AreRowsAt depth rest
  pub from : AllFrom x (rows_at depth rest)
  pub below : (y : ℕ) → x ≤ y → tree.below (y ∷ []) (rows_at depth whole) ≡ tree.below (y ∷ []) (rows_at depth rest)
