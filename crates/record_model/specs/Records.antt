-- Reading the record of a node: its layout from left to right, then its path, then its shape.
use Rattle.std.specs.Prelude.{◌≡◌, ℕ, ◌*◌, ◌/◌, ◌%◌, ◌^◌, ◌<◌, ◌≤◌, ◌==◌, ◌&&◌, not, nat_le, Bool, true, false, List, length, take, drop, Option, None, Some, Result, Ok, Err, if◌then◌else◌, ⊤}
use Rattle.std.specs.Int.{w8, w16, w32, w64}
use Rattle.byte_model.specs.Below.{sum_below}
use Rattle.byte_model.specs.PackedPath.{packed}
use Rattle.byte_model.specs.Node as node
use Rattle.byte_model.specs.Node.{digest_width, Node, ValueRef, spelled, child_count, longest_value, IsShaped}
use Rattle.byte_model.specs.Laws.{FitsRecord}
use Rattle.record_model.specs.Fields.{FrameFault, ordinal, Cursor, Read, start_of, ◌>>=◌, bytes_at, number_at, vector_at, digests_at, end_of}
use Rattle.record_model.specs.Paths.{PathFault, flag, path_in}

-- what is wrong with a record
pub data RecordFault : Type 0 where
  frame : FrameFault → RecordFault
  pack : PathFault → RecordFault
  shape : RecordFault

-- ---- the layout

-- the fields of a record, whatever they mean
pub data Layout : Type 0 where
  leaf : (packed : List ℕ) (value : ValueRef) → Layout
  branch : (value : Option ValueRef) (bitmap : ℕ) (digests : List ℕ) → Layout
  extension : (packed : List ℕ) (child : List ℕ) → Layout

-- bit i of a bitmap, bit 0 the lowest, and how many of the bits below n are set
abbrev pub bit : ℕ → ℕ → ℕ
bit bitmap i = bitmap / 2 ^ i % 2

abbrev pub bits_below : ℕ → ℕ → ℕ
bits_below bitmap n = sum_below (bit bitmap) n

unfoldable pub value_at : Cursor → Read ValueRef
value_at c = do
  count ← number_at w32 c
  digest ← bytes_at digest_width count.1
  Ok (record { length = count.0; digest = digest.0 }, digest.1)

-- sixteen bits, and a digest for each that is set
unfoldable pub children_at : Cursor → Read (ℕ × List ℕ)
children_at c = do
  bitmap ← number_at w16 c
  digests ← digests_at (bits_below bitmap.0 16) bitmap.1
  Ok ((bitmap.0, digests.0), digests.1)

unfoldable pub leaf_at : Cursor → Read Layout
leaf_at c = do
  packed ← vector_at c
  value ← value_at packed.1
  Ok (leaf packed.0 value.0, value.1)

unfoldable pub branch_at : Cursor → Read Layout
branch_at c = do
  kids ← children_at c
  Ok (branch None kids.0.0 kids.0.1, kids.1)

unfoldable pub branch_with_value_at : Cursor → Read Layout
branch_with_value_at c = do
  value ← value_at c
  kids ← children_at value.1
  Ok (branch (Some value.0) kids.0.0 kids.0.1, kids.1)

unfoldable pub extension_at : Cursor → Read Layout
extension_at c = do
  packed ← vector_at c
  child ← bytes_at digest_width packed.1
  Ok (extension packed.0 child.0, child.1)

-- the fields behind an ordinal, which stands at this offset
unfoldable pub kind_at : ℕ → ℕ → Cursor → Read Layout
kind_at offset kind c =
    if kind == 0 then leaf_at c
    else if kind == 1 then branch_at c
    else if kind == 2 then branch_with_value_at c
    else if kind == 3 then extension_at c
    else Err (ordinal offset)

-- the fields of the node, and its usage
unfoldable pub layout_at : Cursor → Read (Layout × ℕ)
layout_at c = do
  kind ← number_at w8 c
  fields ← kind_at c.at kind.0 kind.1
  usage ← number_at w64 fields.1
  Ok ((fields.0, usage.0), usage.1)

-- all of some bytes
unfoldable pub layout_of : List ℕ → Result (Layout × ℕ) FrameFault
layout_of bytes = do
  layout ← layout_at (start_of bytes)
  end_of layout.0 layout.1

-- ---- the node

-- the child at nibble i: its digest stands behind those of the bits below
abbrev pub child_in : ℕ → List ℕ → ℕ → Option (List ℕ)
child_in bitmap digests i = if bit bitmap i == 1 then Some (take digest_width (drop (digest_width * bits_below bitmap i) digests)) else None

-- the test of the shape that a node of any place has
abbrev pub has_shape : Node → Bool
has_shape (node.leaf path value) = nat_le value.length longest_value
has_shape (node.branch None kids) = nat_le 2 (child_count kids)
has_shape (node.branch (Some value) kids) = nat_le value.length longest_value && nat_le 1 (child_count kids)
has_shape (node.extension path child) = not (length path == 0)

unfoldable pub shaped : Node → Result Node RecordFault
shaped n = if has_shape n then Ok n else Err shape

-- a path whose leaf flag suits the kind of the node
unfoldable pub suited : Bool → List ℕ → Result (List ℕ) RecordFault
suited ends bytes = suits ends (path_in bytes)
  where
    suits : Bool → Result (List ℕ × Bool) PathFault → Result (List ℕ) RecordFault
    suits ends (Err e) = Err (pack e)
    suits true (Ok (p, true)) = Ok p
    suits true (Ok (p, false)) = Err (pack flag)
    suits false (Ok (p, true)) = Err (pack flag)
    suits false (Ok (p, false)) = Ok p

unfoldable pub node_in : Layout → Result Node RecordFault
node_in (leaf packed value) = do
  path ← suited true packed
  shaped (node.leaf path value)
node_in (branch value bitmap digests) = shaped (node.branch value (child_in bitmap digests))
node_in (extension packed child) = do
  path ← suited false packed
  shaped (node.extension path child)

-- ---- the record

-- the node that some bytes spell, and the usage that it states, or the first thing that is wrong with them
unfoldable pub record_in : List ℕ → Result (Node × ℕ) RecordFault
record_in bytes = read (layout_of bytes)
  where
    read : Result (Layout × ℕ) FrameFault → Result (Node × ℕ) RecordFault
    read (Err e) = Err (frame e)
    read (Ok layout) = do
      n ← node_in layout.0
      Ok (n, layout.1)

-- the length of a packed path fits its four bytes
abbrev pub HasShortPath : Node → Type 0
HasShortPath (node.leaf path value) = length (packed true path) < 2 ^ 32
HasShortPath (node.branch value kids) = ⊤
HasShortPath (node.extension path child) = length (packed false path) < 2 ^ 32

-- A branch has no child at a number that is no nibble.
abbrev pub HasNibblesOnly : Node → Type 0
HasNibblesOnly (node.leaf path value) = ⊤
HasNibblesOnly (node.branch value kids) = (x : ℕ) → 16 ≤ x → kids x ≡ None
HasNibblesOnly (node.extension path child) = ⊤

-- The bytes are the one spelling of a node of good shape and a usage, and each part fits its field.
pub record IsRecord (n : Node) (usage : ℕ) (bytes : List ℕ) : Type 0 where
  pub spelling : bytes ≡ spelled n usage
  pub fields : FitsRecord n
  pub path : HasShortPath n
  pub usage_fits : usage < 2 ^ 64
  pub shape : IsShaped n
