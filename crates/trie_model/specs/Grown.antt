-- Rows with nibbles put before their paths, and what that makes of their trie.
use Rattle.std.specs.Prelude.{◌≡◌, ℕ, List, [], ◌∷◌, ◌++◌, map, Option, None, Some}
use Rattle.std.specs.List.{AllByRecursion}
use Rattle.byte_model.specs.Below.{joined_below}
use Rattle.trie_model.specs.State.{Row}
use Rattle.trie_model.specs.Tree.{Tree, nothing, leaf, branch, extension}

-- the rows with a prefix put before each path
abbrev pub under : List ℕ → List Row → List Row
under prefix rows = map (λ row. (prefix ++ row.0, row.1)) rows

-- Nibbles lengthen the path of a leaf or an extension at the top. A branch gets an extension with them above it, unless there are none.
unfoldable pub grown : List ℕ → Tree → Tree
grown prefix nothing = nothing
grown prefix (leaf path value) = leaf (prefix ++ path) value
grown [] (branch value kids) = branch value kids
grown (x ∷ prefix) (branch value kids) = extension (x ∷ prefix) (branch value kids)
grown prefix (extension path child) = extension (prefix ++ path) child

-- Rows by their first nibbles: the row that ends here, if one does, and behind it the rows of each nibble below a bound.
abbrev pub here : Option (List ℕ) → List Row
here None = []
here (Some value) = ([], value) ∷ []

abbrev pub spread : (ℕ → List Row) → ℕ → List Row
spread kids n = joined_below (λ x. under (x ∷ []) (kids x)) n

-- a path has a prefix, and the paths of all rows do
abbrev pub HasPrefix : List ℕ → List ℕ → Type 0
HasPrefix prefix path = (rest : List ℕ) × (path ≡ prefix ++ rest)

abbrev pub AllHavePrefix : List ℕ → List Row → Type 0
AllHavePrefix prefix rows = AllByRecursion (λ row. HasPrefix prefix row.0) rows
