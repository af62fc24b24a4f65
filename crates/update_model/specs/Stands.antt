-- What is seen stands at a depth, behind an extension or not, where the batch visits it: paths and values within their limits, nodes of good shape.
use Rattle.std.specs.Prelude.{◌≡◌, ◌≢◌, ℕ, ◌+◌, ◌<◌, ◌≤◌, Bool, true, false, List, [], ◌∷◌, length, Option, Some, ⊤}
use Rattle.byte_model.specs.Nibbles.{AreNibbles}
use Rattle.byte_model.specs.PackedPath.{longest_path}
use Rattle.byte_model.specs.Node as node
use Rattle.byte_model.specs.Node.{ValueRef, IsShaped, longest_value}
use Rattle.visit_model.specs.Seen.{Seen, nothing, missing, bad, leaf, branch, extension}
use Rattle.batch_model.specs.Changes.{Change}
use Rattle.change_model.specs.Along.{digest_of, IfTouched}
use Rattle.change_model.specs.Visits.{changes_behind, merged_child}

-- ---- a node

pub record LeafStands (depth : ℕ) (after_extension : Bool) (path : List ℕ) (ref : ValueRef) : Type 0 where
  pub nibbles : AreNibbles path
  pub short : depth + length path ≤ longest_path
  pub value : ref.length ≤ longest_value
  pub not_after : after_extension ≡ false

pub record ExtensionStands (depth : ℕ) (after_extension : Bool) (path : List ℕ) (child : Seen) : Type 0 where
  pub nibbles : AreNibbles path
  pub some : path ≢ []
  pub room : depth + length path < longest_path
  pub not_after : after_extension ≡ false
  pub there : child ≢ nothing

pub record BranchStands (depth : ℕ) (ref : Option ValueRef) (kids : ℕ → Seen) : Type 0 where
  pub room : depth < longest_path
  pub shape : IsShaped (node.branch ref (λ x. digest_of (kids x)))

-- ---- what a batch visits

-- the node itself
abbrev pub TopStandsSeen : ℕ → Bool → Seen → Type 0
TopStandsSeen depth after_extension nothing = ⊤
TopStandsSeen depth after_extension (missing digest) = ⊤
TopStandsSeen depth after_extension (bad digest) = ⊤
TopStandsSeen depth after_extension (leaf digest usage path ref) = LeafStands depth after_extension path ref
TopStandsSeen depth after_extension (branch digest usage ref kids) = BranchStands depth ref kids
TopStandsSeen depth after_extension (extension digest usage path child) = ExtensionStands depth after_extension path child

-- and so does what is visited below it
abbrev pub StandsAlong : ℕ → Bool → Seen → List Change → Type 0
StandsAlong depth after_extension nothing changes = ⊤
StandsAlong depth after_extension (missing digest) changes = ⊤
StandsAlong depth after_extension (bad digest) changes = ⊤
StandsAlong depth after_extension (leaf digest usage path ref) changes = LeafStands depth after_extension path ref
StandsAlong depth after_extension (branch digest usage ref kids) changes =
    BranchStands depth ref kids
    × ((x : ℕ) → x < 16 → IfTouched (changes_behind (x ∷ []) changes) (StandsAlong (depth + 1) false (kids x) (changes_behind (x ∷ []) changes)) ⊤)
    × ((x : ℕ) → merged_child ref kids changes ≡ Some x → TopStandsSeen (depth + 1) false (kids x))
StandsAlong depth after_extension (extension digest usage path child) changes =
    ExtensionStands depth after_extension path child
    × IfTouched (changes_behind path changes) (StandsAlong (depth + length path) true child (changes_behind path changes)) ⊤
