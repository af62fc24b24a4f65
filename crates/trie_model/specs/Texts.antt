-- The texts of a trie: the records of its nodes from the leaves up, since each holds the digests of those below it.
-- What stands in a subtree's texts depends on the rests and values below its place alone.
use Rattle.std.specs.Prelude.{ℕ, ◌+◌, List, [], ◌∷◌, ◌++◌, length, map, true, false, Option, None, Some}
use Rattle.std.specs.Option.{option_map}
use Rattle.sha2.specs.Sha256.{sha256}
use Rattle.byte_model.specs.PackedPath.{packed}
use Rattle.byte_model.specs.Below.{sum_below, joined_below}
use Rattle.byte_model.specs.Node as node
use Rattle.byte_model.specs.Node.{Node, ValueRef, spelled, cost_of}
use Rattle.trie_model.specs.Tree.{Tree, nothing, leaf, branch, extension}

-- ---- memory usage

-- what the place of a subtree costs by itself
unfoldable pub top_cost : Tree → ℕ
top_cost nothing = 0
top_cost (leaf path value) = cost_of (length (packed true path)) (Some (length value))
top_cost (branch value kids) = cost_of 0 (option_map length value)
top_cost (extension path child) = cost_of (length (packed false path)) None

-- what all places of a subtree cost
unfoldable pub usage : Tree → ℕ
usage nothing = 0
usage (leaf path value) = top_cost (leaf path value)
usage (branch value kids) = top_cost (branch value kids) + sum_below (λ x. usage (kids x)) 16
usage (extension path child) = top_cost (extension path child) + usage child

-- ---- nodes and their texts

-- how a node names a value
abbrev pub value_ref : List ℕ → ValueRef
value_ref value = record { length = length value; digest = sha256 value }

-- how a parent names a subtree that has this text, if it is there
unfoldable pub name_of : Tree → List ℕ → Option (List ℕ)
name_of nothing text = None
name_of (leaf path value) text = Some (sha256 text)
name_of (branch value kids) text = Some (sha256 text)
name_of (extension path child) text = Some (sha256 text)

-- the text at the place of a subtree, which states the usage of all its places
unfoldable pub text : Tree → List ℕ
text nothing = []
text (leaf path value) = spelled (node.leaf path (value_ref value)) (usage (leaf path value))
text (branch value kids) = spelled (node.branch (option_map value_ref value) (λ x. name_of (kids x) (text (kids x)))) (usage (branch value kids))
text (extension path child) = spelled (node.extension path (sha256 (text child))) (usage (extension path child))

-- the node there, whose record is the text
unfoldable pub node_of : Tree → Option Node
node_of nothing = None
node_of (leaf path value) = Some (node.leaf path (value_ref value))
node_of (branch value kids) = Some (node.branch (option_map value_ref value) (λ x. name_of (kids x) (text (kids x))))
node_of (extension path child) = Some (node.extension path (sha256 (text child)))

-- ---- places

-- each path with a prefix before it
abbrev pub behind : List ℕ → List (List ℕ) → List (List ℕ)
behind prefix paths = map (λ path. prefix ++ path) paths

-- The places of a subtree: the paths that lead to its nodes, by rising path.
unfoldable pub places : Tree → List (List ℕ)
places nothing = []
places (leaf path value) = [] ∷ []
places (branch value kids) = [] ∷ joined_below (λ x. behind (x ∷ []) (places (kids x))) 16
places (extension path child) = [] ∷ behind path (places child)
