-- The top of a trie of which no more is known than what stands before it, or above it, needs: the path of a leaf and the name of its value, the digest of a branch, the path of an extension and the digest of its child. The records of all places below are made. That of the top is made where it is a branch, and else it is still to be made, since nibbles may come before its path.
use Rattle.std.specs.Prelude.{ℕ, ◌+◌, ◌==◌, List, [], ◌∷◌, ◌++◌, Option, None, Some, if◌then◌else◌}
use Rattle.sha2.specs.Sha256.{sha256}
use Rattle.byte_model.specs.Node as node
use Rattle.byte_model.specs.Node.{ValueRef, spelled}
use Rattle.trie_model.specs.Tree as tree
use Rattle.trie_model.specs.Tree.{Tree}
use Rattle.trie_model.specs.Texts.{text, usage, value_ref}
use Rattle.change_model.specs.Visits.{leaf_cost, extension_cost}

-- A branch has the usage that its record states, and an extension that of its child.
pub data Top : Type 0 where
  empty : Top
  leaf : (path : List ℕ) (ref : ValueRef) → Top
  branch : (digest : List ℕ) (used : ℕ) → Top
  extension : (path : List ℕ) (child : List ℕ) (used : ℕ) → Top

-- the top of a trie whose pairs are known
unfoldable pub top_of : Tree → Top
top_of tree.nothing = empty
top_of (tree.leaf path value) = leaf path (value_ref value)
top_of (tree.branch value kids) = branch (sha256 (text (tree.branch value kids))) (usage (tree.branch value kids))
top_of (tree.extension path child) = extension path (sha256 (text child)) (usage child)

-- what the whole trie uses
unfoldable pub top_usage : Top → ℕ
top_usage empty = 0
top_usage (leaf path ref) = leaf_cost path ref
top_usage (branch digest used) = used
top_usage (extension path child used) = extension_cost path + used

-- the records of a leaf and of an extension
abbrev pub leaf_text : List ℕ → ValueRef → List ℕ
leaf_text path ref = spelled (node.leaf path ref) (leaf_cost path ref)

abbrev pub extension_text : List ℕ → List ℕ → ℕ → List ℕ
extension_text path child used = spelled (node.extension path child) (extension_cost path + used)

-- the record that is still to be made, if one is
unfoldable pub pending : Top → List (List ℕ)
pending empty = []
pending (leaf path ref) = leaf_text path ref ∷ []
pending (branch digest used) = []
pending (extension path child used) = extension_text path child used ∷ []

-- the digest by which a parent names the trie, if it has a pair
unfoldable pub top_digest : Top → Option (List ℕ)
top_digest empty = None
top_digest (leaf path ref) = Some (sha256 (leaf_text path ref))
top_digest (branch digest used) = Some digest
top_digest (extension path child used) = Some (sha256 (extension_text path child used))

-- the trie with nibbles put before its paths
unfoldable pub lowered : List ℕ → Top → Top
lowered nibbles empty = empty
lowered nibbles (leaf path ref) = leaf (nibbles ++ path) ref
lowered [] (branch digest used) = branch digest used
lowered (x ∷ nibbles) (branch digest used) = extension (x ∷ nibbles) digest used
lowered nibbles (extension path child used) = extension (nibbles ++ path) child used

-- what stands behind one nibble, of a leaf or an extension by its path
unfoldable pub top_behind : ℕ → Top → Top
top_behind x empty = empty
top_behind x (leaf [] ref) = empty
top_behind x (leaf (y ∷ path) ref) = if x == y then leaf path ref else empty
top_behind x (branch digest used) = empty
top_behind x (extension [] child used) = empty
top_behind x (extension (y ∷ path) child used) = if x == y then lowered path (branch child used) else empty

-- the value of a leaf whose path is used up
unfoldable pub ref_here : Top → Option ValueRef
ref_here empty = None
ref_here (leaf [] ref) = Some ref
ref_here (leaf (x ∷ path) ref) = None
ref_here (branch digest used) = None
ref_here (extension path child used) = None
