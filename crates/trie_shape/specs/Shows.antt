-- What a subtree stands for while the record of its top is not made, and what a record stands for.
use Rattle.std.specs.Prelude.{◌≡◌, ℕ, ◌+◌, ◌<◌, ◌≤◌, List, [], ◌∷◌, ◌++◌, length, Option, None, Some, option_map, ⊤}
use Rattle.std.specs.Option.{ForSome}
use Rattle.sha2.specs.Sha256.{sha256}
use Rattle.byte_model.specs.Below.{sum_below}
use Rattle.byte_model.specs.Nibbles.{AreNibbles}
use Rattle.byte_model.specs.PackedPath.{longest_path}
use Rattle.byte_model.specs.Node as node
use Rattle.byte_model.specs.Node.{Node, IsShaped, spelled, own_cost, ValueRef as ValueOfRecord}
use Rattle.trie_model.specs.State.{Row}
use Rattle.trie_model.specs.Tree.{Tree, nothing, leaf, branch, extension, below, ends_here, tree_of}
use Rattle.trie_model.specs.Texts as texts
use Rattle.trie_model.specs.Texts.{text, usage, value_ref, name_of}
use Rattle.node_codec.specs.Meanings.{value_of}
use Rattle.base_core.specs.declared.hash.Digest.{Digest}
use Rattle.trie_shape.specs.declared.closed.Closed.{Closed}
use Rattle.trie_shape.specs.declared.sub.Sub.{Sub}
use Rattle.trie_shape.specs.declared.sub.Sub.TheVariants.{Empty, Leaf, Branch, Extension}
use Rattle.trie_shape.specs.Runs.{DoFork}

-- ---- a subtree by itself

-- it with nibbles put before it
abbrev pub under_of : List ℕ → Sub → Sub
under_of nibbles Empty = Empty
under_of nibbles (Leaf path value) = Leaf (nibbles ++ path) value
under_of [] (Branch digest used) = Branch digest used
under_of (x ∷ nibbles) (Branch digest used) = Extension (x ∷ nibbles) digest used
under_of nibbles (Extension path child used) = Extension (nibbles ++ path) child used

-- the node whose record is to be written, if one is
abbrev pub top_node : Sub → Option Node
top_node Empty = None
top_node (Leaf path value) = Some (node.leaf path (value_of value))
top_node (Branch digest used) = None
top_node (Extension path child used) = Some (node.extension path child.0)

-- the path of that node
abbrev pub path_of : Sub → List ℕ
path_of Empty = []
path_of (Leaf path value) = path
path_of (Branch digest used) = []
path_of (Extension path child used) = path

-- what the whole subtree uses
abbrev pub usage_of : Sub → ℕ
usage_of Empty = 0
usage_of (Leaf path value) = own_cost (node.leaf path (value_of value))
usage_of (Branch digest used) = used
usage_of (Extension path child used) = own_cost (node.extension path child.0) + used

-- the digest by which a parent names it, if it has a pair
abbrev pub digest_of : Sub → Option (List ℕ)
digest_of Empty = None
digest_of (Leaf path value) = Some (sha256 (spelled (node.leaf path (value_of value)) (usage_of (Leaf path value))))
digest_of (Branch digest used) = Some digest.0
digest_of (Extension path child used) = Some (sha256 (spelled (node.extension path child.0) (usage_of (Extension path child used))))

-- Its record, where it has one to write, can be written: a path of nibbles within the limit, and a node of good shape.
pub record MayClose (sub : Sub) : Type 0 where
  pub nibbles : AreNibbles (path_of sub)
  pub short : length (path_of sub) ≤ longest_path
  pub shaped : ForSome (top_node sub) IsShaped

-- ---- the trie that it stands for

-- It shows a trie: the same path, the same names of what is below it, and the usage of what has its record already.
abbrev pub Shows : Sub → Tree → Type 0
Shows Empty nothing = ⊤
Shows (Leaf path value) (leaf p v) = (path ≡ p) × (value_of value ≡ value_ref v)
Shows (Branch digest used) (branch v kids) = (digest.0 ≡ sha256 (text (branch v kids))) × (used ≡ usage (branch v kids))
Shows (Extension path child used) (extension p tree) = (path ≡ p) × (child.0 ≡ sha256 (text tree)) × (used ≡ usage tree)
Shows sub tree = ⊥

-- the subtree of a node that was read, from the digest of its text and the usage that it states
abbrev pub IsRead : Sub → Node → List ℕ → ℕ → Type 0
IsRead (Leaf path value) read digest used = read ≡ node.leaf path (value_of value)
IsRead (Branch named below) (node.branch value kids) digest used = (named.0 ≡ digest) × (below ≡ used)
IsRead (Extension path child below) read digest used = (read ≡ node.extension path child.0) × (used ≡ own_cost read + below)
IsRead sub read digest used = ⊥

-- ---- records

-- the record of a node in a subtree of this usage
pub record IsRecord (closed : Closed) (node : Node) (used : ℕ) : Type 0 where
  pub text : closed.text ≡ spelled node used
  pub digest : closed.digest.0 ≡ sha256 closed.text
  pub usage : closed.usage ≡ used

-- the record of the top place of a trie
pub record IsTop (closed : Closed) (tree : Tree) : Type 0 where
  pub text : closed.text ≡ texts.text tree
  pub digest : closed.digest.0 ≡ sha256 closed.text
  pub usage : closed.usage ≡ texts.usage tree

-- the digest by which a parent names a trie, if it has a row, and its usage
pub record IsName (name : Option Digest × ℕ) (tree : Tree) : Type 0 where
  pub digest : option_map (λ d. d.0) name.0 ≡ name_of tree (texts.text tree)
  pub usage : name.1 ≡ texts.usage tree

-- ---- the children of a branch

-- the trie of the rows that go on with a nibble
abbrev pub child_of : List Row → ℕ → Tree
child_of rows x = tree_of (below (x ∷ []) rows)

-- the names of the tries at the sixteen nibbles, and what these use together
pub record AreChildren (kids : ℕ → Option (List ℕ)) (used : ℕ) (trees : ℕ → Tree) : Type 0 where
  pub named : (x : ℕ) → x < 16 → kids x ≡ name_of (trees x) (texts.text (trees x))
  pub together : used ≡ sum_below (λ x. texts.usage (trees x)) 16

-- the value and the children of the branch of rows that fork
pub record IsBranchOf (rows : List Row) (value : Option ValueOfRecord) (kids : ℕ → Option (List ℕ)) (used : ℕ) : Type 0 where
  pub fork : DoFork rows
  pub ends : value ≡ option_map value_ref (ends_here rows)
  pub children : AreChildren kids used (child_of rows)
