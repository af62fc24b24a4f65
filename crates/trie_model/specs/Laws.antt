-- What the laws over the definitions speak of.
use Rattle.std.specs.Prelude.{◌≡◌, ◌≢◌, ℕ, ◌<◌, ◌↔◌, List, [], ◌∷◌, ◌++◌, Option, None, Some, Contains, ⊤, option_map}
use Rattle.sha2.specs.Sha256.{sha256}
use Rattle.byte_model.specs.Below.{sum_below}
use Rattle.byte_model.specs.Node.{Node, leaf, branch, extension}
use Rattle.trie_model.specs.State.{State, Row, rows_of}
use Rattle.trie_model.specs.Tree as tree
use Rattle.trie_model.specs.Tree.{Tree, below}
use Rattle.trie_model.specs.Texts.{usage, name_of}
use Rattle.trie_model.specs.Root.{subtree_at, text_at, places_of}

-- the usages of the child places of the node at a place
abbrev pub children_usage : State → List ℕ → Node → ℕ
children_usage state place (leaf path value) = 0
children_usage state place (branch value kids) = sum_below (λ x. usage (subtree_at state (place ++ x ∷ []))) 16
children_usage state place (extension path child) = usage (subtree_at state (place ++ path))

-- A branch has a child place at each nibble below which there is a row and at no other, and an extension has its one.
abbrev pub ChildrenArePlaces : State → List ℕ → Node → Type 0
ChildrenArePlaces state place (leaf path value) = ⊤
ChildrenArePlaces state place (branch value kids) = (x : ℕ) → Contains (places_of state) (place ++ x ∷ []) ↔ ((x < 16) × (below (place ++ x ∷ []) (rows_of state) ≢ []))
ChildrenArePlaces state place (extension path child) = Contains (places_of state) (place ++ path)

-- the row whose value the top node of a subtree holds, if it holds one
unfoldable pub held_by : Tree → Option Row
held_by tree.nothing = None
held_by (tree.leaf path value) = Some (path, value)
held_by (tree.branch value kids) = option_map (λ v. ([], v)) value
held_by (tree.extension path child) = None

-- the row whose value the node at a place holds, if it holds one
unfoldable pub held_at : State → List ℕ → Option Row
held_at state place = option_map (λ row. (place ++ row.0, row.1)) (held_by (subtree_at state place))

-- The node at a place names its children by the digests of their texts, and a branch has none where there is no child.
abbrev pub NamesChildren : State → List ℕ → Node → Type 0
NamesChildren state place (leaf path value) = ⊤
NamesChildren state place (branch value kids) = (x : ℕ) → kids x ≡ name_of (subtree_at state (place ++ x ∷ [])) (text_at state (place ++ x ∷ []))
NamesChildren state place (extension path child) = child ≡ sha256 (text_at state (place ++ path))
