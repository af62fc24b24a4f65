-- What the types of this crate stand for: the nodes that records are defined of.
use Rattle.std.specs.Prelude.{ℕ, List, [], Option, None, slice_index_or}
use Rattle.std.specs.Option.{option_map}
use Rattle.base_core.specs.declared.hash.Digest.{Digest}
use Rattle.byte_model.specs.Node.{Node as NodeOfRecord, ValueRef as ValueOfRecord, leaf, branch, extension}
use Rattle.node_codec.specs.declared.value_ref.ValueRef.{ValueRef}
use Rattle.node_codec.specs.declared.node.Node.{Node}
use Rattle.node_codec.specs.declared.node.Node.TheVariants.{Leaf, Branch, Extension}

abbrev pub value_of : ValueRef → ValueOfRecord
value_of value = record { length = value.length; digest = value.digest.0 }

-- the bytes of the digest at each index, and nothing past the last one
abbrev pub children_in : List (Option Digest) → ℕ → Option (List ℕ)
children_in kids i = option_map (λ digest. digest.0) (slice_index_or kids i None)

abbrev pub node_of : Node → NodeOfRecord
node_of (Leaf path value) = leaf path (value_of value)
node_of (Branch value kids) = branch (option_map value_of value) (children_in kids.value)
node_of (Extension path child) = extension path child.0

-- the nibbles that a node has by itself
abbrev pub path_of : Node → List ℕ
path_of (Leaf path value) = path
path_of (Branch value kids) = []
path_of (Extension path child) = path
