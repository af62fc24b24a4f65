-- What a node of a state's trie keeps to where it stands, by its depth in nibbles and by whether an extension stands above it.
use Rattle.std.specs.Prelude.{ℕ, ◌+◌, ◌%◌, ◌==◌, ◌&&◌, not, nat_le, nat_lt, Bool, List, length, Option, None, Some, Result, Ok, Err, if◌then◌else◌}
use Rattle.byte_model.specs.PackedPath.{longest_path}
use Rattle.byte_model.specs.Node.{Node, leaf, branch, extension}
use Rattle.record_model.specs.Records.{RecordFault, record_in, has_shape}

-- the number of nibbles is that of whole bytes
abbrev pub is_whole : ℕ → Bool
is_whole nibbles = nibbles % 2 == 0

-- A node of good shape fits below so many nibbles, as an extension's child or not: a key ends at a whole byte and within its length, a branch and an extension leave room for a nibble more, and neither leaf nor extension stands below an extension.
unfoldable pub has_place : ℕ → Bool → Node → Bool
has_place depth after_extension (leaf path value) = is_whole (depth + length path) && nat_le (depth + length path) longest_path && not after_extension
has_place depth after_extension (branch None kids) = nat_lt depth longest_path
has_place depth after_extension (branch (Some value) kids) = nat_lt depth longest_path && is_whole depth
has_place depth after_extension (extension path child) = nat_lt (depth + length path) longest_path && not after_extension

abbrev pub fits_at : ℕ → Bool → Node → Bool
fits_at depth after_extension node = has_shape node && has_place depth after_extension node

-- a node that was read, with the usage that its record states, if it fits there
abbrev pub fitting : ℕ → Bool → Result (Node × ℕ) RecordFault → Option (Node × ℕ)
fitting depth after_extension (Err fault) = None
fitting depth after_extension (Ok found) = if fits_at depth after_extension found.0 then Some found else None

-- the node that a text spells, likewise
abbrev pub fitting_node : ℕ → Bool → List ℕ → Option (Node × ℕ)
fitting_node depth after_extension text = fitting depth after_extension (record_in text)
