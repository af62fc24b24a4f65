-- What the laws over the definitions speak of.
use Rattle.std.specs.Prelude.{◌≡◌, ◌^◌, ◌<◌, ℕ, List, length, IfSome}
use Rattle.byte_model.specs.Nibbles.{AreNibbles}
use Rattle.byte_model.specs.Node.{digest_width, ValueRef, Node, leaf, branch, extension}

-- the bytes are as many as those of a digest
abbrev pub IsDigest : List ℕ → Type 0
IsDigest digest = length digest ≡ digest_width

-- the length fits four bytes
abbrev pub NamesValue : ValueRef → Type 0
NamesValue value = (value.length < 2 ^ 32) × IsDigest value.digest

-- a node whose parts fit their fields
abbrev pub FitsRecord : Node → Type 0
FitsRecord (leaf path value) = AreNibbles path × NamesValue value
FitsRecord (branch value kids) = IfSome value NamesValue × ((x : ℕ) → x < 16 → IfSome (kids x) IsDigest)
FitsRecord (extension path child) = AreNibbles path × IsDigest child

-- the same node: of a branch, what it has at the sixteen nibbles
abbrev pub SameNode : Node → Node → Type 0
SameNode (leaf path value) (leaf other_path other_value) = (path ≡ other_path) × (value ≡ other_value)
SameNode (branch value kids) (branch other_value other_children) = (value ≡ other_value) × ((x : ℕ) → x < 16 → kids x ≡ other_children x)
SameNode (extension path child) (extension other_path other_child) = (path ≡ other_path) × (child ≡ other_child)
SameNode _ _ = ⊥
