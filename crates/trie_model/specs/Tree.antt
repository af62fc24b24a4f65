-- The one trie of a list of rows (modelled on nearcore's, with a rule of this project's own).
-- Three cases: one row is a leaf; several rows whose rests share a prefix are an extension by the longest such prefix; other rows are a branch.
use Rattle.std.specs.Prelude.{ℕ, zero, suc, ◌==◌, max, List, [], ◌∷◌, length, Option, None, Some, if◌then◌else◌}
use Rattle.std.specs.List.{filter_map}
use Rattle.std.specs.Option.{option_map}
use Rattle.trie_model.specs.State.{Row}

-- ---- what lies below a path

-- what is left of a path behind a prefix, if it has that prefix
unfoldable pub rest_behind : List ℕ → List ℕ → Option (List ℕ)
rest_behind [] path = Some path
rest_behind (x ∷ prefix) [] = None
rest_behind (x ∷ prefix) (y ∷ path) = if x == y then rest_behind prefix path else None

-- a row with what is left of its path behind a prefix, if the path has that prefix
abbrev pub row_behind : List ℕ → Row → Option Row
row_behind prefix row = option_map (λ rest. (rest, row.1)) (rest_behind prefix row.0)

-- the rows whose paths have this prefix, each with what is left of its path
unfoldable pub below : List ℕ → List Row → List Row
below prefix rows = filter_map (row_behind prefix) rows

-- the value of the row that ends here, the first of them in a list that is no state's
unfoldable pub ends_here : List Row → Option (List ℕ)
ends_here [] = None
ends_here (([], value) ∷ rows) = Some value
ends_here ((x ∷ path, value) ∷ rows) = ends_here rows

-- ---- the prefix that paths share

-- the longest common prefix of two paths
unfoldable pub common : List ℕ → List ℕ → List ℕ
common [] path = []
common (x ∷ prefix) [] = []
common (x ∷ prefix) (y ∷ path) = if x == y then x ∷ common prefix path else []

-- the longest common prefix of the rows, of at least one row
unfoldable pub common_prefix : Row → List Row → List ℕ
common_prefix row [] = row.0
common_prefix row (next ∷ rows) = common row.0 (common_prefix next rows)

-- ---- the trie

-- A branch has a subtree at each of the sixteen nibbles, `nothing` where there is no row. Two branches are equal where all they have at numbers are.
pub data Tree : Type 0 where
  nothing : Tree
  leaf : (path value : List ℕ) → Tree
  branch : (value : Option (List ℕ)) (kids : ℕ → Tree) → Tree
  extension : (path : List ℕ) (child : Tree) → Tree

-- several rows that share this prefix: an extension, where the prefix is not empty, else a branch
abbrev pub forked : (List Row → Tree) → List ℕ → List Row → Tree
forked subtree [] rows = branch (ends_here rows) (λ x. subtree (below (x ∷ []) rows))
forked subtree (x ∷ prefix) rows = extension (x ∷ prefix) (subtree (below (x ∷ prefix) rows))

-- the three cases, and that of no row, where `subtree` gives the trie of the rows below
abbrev pub tree_by : (List Row → Tree) → List Row → Tree
tree_by subtree [] = nothing
tree_by subtree (row ∷ []) = leaf row.0 row.1
tree_by subtree (row ∷ next ∷ rows) = forked subtree (common_prefix row (next ∷ rows)) (row ∷ next ∷ rows)

-- at most this many nodes below one another: each step down leaves shorter rests
unfoldable pub tree_within : ℕ → List Row → Tree
tree_within zero rows = nothing
tree_within (suc depth) rows = tree_by (tree_within depth) rows

-- the length of the longest rest
unfoldable pub longest : List Row → ℕ
longest [] = 0
longest (row ∷ rows) = max (length row.0) (longest rows)

-- the trie of the rows
unfoldable pub tree_of : List Row → Tree
tree_of rows = tree_within (suc (longest rows)) rows
