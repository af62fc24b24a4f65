-- What a node that fits at a place keeps to: what it costs by itself, and the length of its path.
use Rattle.std.proofs.Common.{◌≡◌, ℕ, ◌+◌, ◌-◌, ◌^◌, ◌≤◌, ◌&&◌, not, nat_le, Bool, true, false, List, length, min, Option, None, Some, arith}
use Rattle.std.proofs.lemmas.Bool.{and_parts}
use Rattle.std.proofs.lemmas.Bool.Decides.{nat_tests}
use Rattle.byte_model.specs.Node as node
use Rattle.byte_model.specs.Node.{Node, ValueRef, own_cost, longest_value, child_count}
use Rattle.byte_model.specs.PackedPath.{longest_path}
use Rattle.byte_model.proofs.Paths.{length-packed}
use Rattle.record_model.specs.Records.{has_shape}
use Rattle.record_model.specs.Fits.{fits_at, has_place, is_whole, fitting_node}
use Rattle.record_model.proofs.Fitting.{fitting_node-fits}
use Rattle.visit_model.proofs.SeenBounds.{shape_fits, place_fits, extension_room}

-- ---- of a text that was read

-- ---- what it costs

-- the most that a node costs by itself, its value with it
abbrev pub most_cost : ℕ
most_cost = 2 ^ 23

pub leaf_room : (depth : ℕ) (after_extension : Bool) (path : List ℕ) (ref : ValueRef) → has_place depth after_extension (node.leaf path ref) ≡ true → depth + length path ≤ longest_path
unfolding has_place
leaf_room depth after_extension path ref fits =
    let first = (and_parts (is_whole (depth + length path) && nat_le (depth + length path) longest_path) (not after_extension) fits).0 in
    let room : nat_le (depth + length path) longest_path ≡ true = (and_parts (is_whole (depth + length path)) (nat_le (depth + length path) longest_path) first).1 in
    grind (arith, nat_tests)

pub leaf_length : (path : List ℕ) (ref : ValueRef) → has_shape (node.leaf path ref) ≡ true → ref.length ≤ longest_value
leaf_length path ref shape = grind (arith, nat_tests)

pub branch_length : (ref : ValueRef) (kids : ℕ → Option (List ℕ)) → has_shape (node.branch (Some ref) kids) ≡ true → ref.length ≤ longest_value
branch_length ref kids shape =
    let small : nat_le ref.length longest_value ≡ true = (and_parts (nat_le ref.length longest_value) (nat_le 1 (child_count kids)) shape).0 in
    grind (arith, nat_tests)

pub own_cost-small : (depth : ℕ) (after_extension : Bool) (n : Node) → fits_at depth after_extension n ≡ true → own_cost n ≤ most_cost
unfolding own_cost
own_cost-small depth after_extension (node.leaf path ref) fits =
    let room = leaf_room depth after_extension path ref (place_fits depth after_extension (node.leaf path ref) fits) in
    let value = leaf_length path ref (shape_fits depth after_extension (node.leaf path ref) fits) in
    let bytes = length-packed true path in
    omega arith
own_cost-small depth after_extension (node.branch None kids) fits = omega arith
own_cost-small depth after_extension (node.branch (Some ref) kids) fits = let value = branch_length ref kids (shape_fits depth after_extension (node.branch (Some ref) kids) fits) in omega arith
own_cost-small depth after_extension (node.extension path child) fits =
    let room = extension_room depth after_extension path child (place_fits depth after_extension (node.extension path child) fits) in
    let bytes = length-packed false path in
    omega arith

-- the price that the code gives is the whole one
pub own_cost-is : (depth : ℕ) (after_extension : Bool) (text : List ℕ) (n : Node) (usage price : ℕ) → fitting_node depth after_extension text ≡ Some (n, usage) → price ≡ min (own_cost n) (2 ^ 64 - 1) → price ≡ own_cost n
own_cost-is depth after_extension text n usage price fits is = let small = own_cost-small depth after_extension n (fitting_node-fits depth after_extension text n usage fits) in omega arith
