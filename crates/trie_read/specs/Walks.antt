-- A walk over the places of a trie: which steps of the listing are still to be gone.
use Rattle.std.specs.Prelude.{◌≡◌, ℕ, ◌+◌, ◌%◌, ◌≤◌, ◌<◌, Bool, true, false, List, [], ◌∷◌, ◌++◌, length, take, drop, Option, None, Some, IfSome, if◌then◌else◌, ⊤, ◌⊎◌}
use Rattle.std.specs.Option.{option_map}
use Rattle.std.specs.List.{AllByRecursion}
use Rattle.byte_model.specs.Nibbles.{AreNibbles}
use Rattle.byte_model.specs.PackedPath.{longest_path}
use Rattle.byte_model.specs.Node.{Node, longest_value}
use Rattle.record_model.specs.Fits.{fits_at}
use Rattle.trie_model.specs.Root.{Table}
use Rattle.visit_model.specs.Seen.{seen_at, seen_child, seen_node}
use Rattle.visit_model.specs.Steps.{Step, node, value_steps, behind, bound_behind, listing_steps}
use Rattle.visit_model.specs.Bounds.{at_most_one}
use Rattle.node_codec.specs.declared.value_ref.ValueRef as codec
use Rattle.node_codec.specs.Meanings.{value_of}
use Rattle.trie_read.specs.declared.walk.Place.{Place}
use Rattle.trie_read.specs.declared.walk.Walk.{Walk}
use Rattle.trie_read.specs.declared.walk.Side.{Side}
use Rattle.trie_read.specs.declared.walk.Side.TheVariants.{Below, Within, Above}

-- ---- places that are still to be visited

-- the nibbles before a place, by the walk's path, and how many they are
abbrev pub place_before : List ℕ → Place → List ℕ
place_before path place = take place.prefix path ++ at_most_one place.nibble

abbrev pub place_depth : Place → ℕ
place_depth place = place.prefix + length (at_most_one place.nibble)

-- what is left of the bound there
abbrev pub place_bound : List ℕ → Place → List ℕ
place_bound from place = if place.bounded then drop (place_depth place) from else []

abbrev pub steps_at : Table → List ℕ → List ℕ → Place → List Step
steps_at table from path place = listing_steps (seen_at table (place_depth place) place.after_extension place.digest.0) (place_before path place) (place_bound from place)

-- the last place comes first
unfoldable pub steps_of : Table → List ℕ → List ℕ → List Place → List Step
steps_of table from path [] = []
steps_of table from path (place ∷ places) = steps_of table from path places ++ steps_at table from path place

-- It shares at most so many nibbles with the path, and is not too deep for anything to fit.
pub record IsPlace (within : ℕ) (place : Place) : Type 0 where
  pub prefix : place.prefix ≤ within
  pub deep : place_depth place ≤ longest_path
  pub small : AreNibbles (at_most_one place.nibble)

-- each place shares no more with the path than those after it
abbrev pub Stacked : ℕ → List Place → Type 0
Stacked within [] = ⊤
Stacked within (place ∷ places) = IsPlace within place × AllByRecursion (λ other. place.prefix ≤ other.prefix) places × Stacked within places

pub record IsWalk (path : List ℕ) (pending : List Place) : Type 0 where
  pub small : AreNibbles path
  pub stacked : Stacked (length path) pending

-- ---- bounds

abbrev pub IsSide : List ℕ → List ℕ → Side → Type 0
IsSide prefix bound Below = bound_behind prefix bound ≡ None
IsSide prefix bound Within = (bound_behind prefix bound ≡ Some (drop (length prefix) bound)) × (length prefix < length bound)
IsSide prefix bound Above = bound_behind prefix bound ≡ Some []

abbrev pub IsChildBound : ℕ → List ℕ → Option Bool → Type 0
IsChildBound nibble bound None = bound_behind (nibble ∷ []) bound ≡ None
IsChildBound nibble bound (Some true) = (bound_behind (nibble ∷ []) bound ≡ Some (drop 1 bound)) × (1 ≤ length bound)
IsChildBound nibble bound (Some false) = bound_behind (nibble ∷ []) bound ≡ Some []

-- what is left of a bound at a depth, or nothing of it
abbrev pub IsBound : List ℕ → ℕ → List ℕ → Type 0
IsBound from depth bound = (bound ≡ drop depth from) ⊎ (bound ≡ [])

-- ---- nodes

-- The nibbles are those of a key within its limit, and so is the length of the value that is named.
pub record IsValueAt (path : List ℕ) (ref : codec.ValueRef) : Type 0 where
  pub whole : length path % 2 ≡ 0
  pub short : length path ≤ longest_path
  pub value : ref.length ≤ longest_value

abbrev pub FitsSomewhere : ℕ → Node → Type 0
FitsSomewhere depth n = (after_extension : Bool) × (fits_at depth after_extension n ≡ true)

-- the steps below the child at a nibble
abbrev pub child_steps : Table → List ℕ → List ℕ → (ℕ → Option (List ℕ)) → ℕ → List Step
child_steps table path bound kids x = behind (listing_steps (seen_child (seen_at table (length path + 1) false) (kids x)) (path ++ x ∷ [])) (bound_behind (x ∷ []) bound)

-- Entering a node: its steps are the node's own, then its value's, and then those of the places that were taken up.
pub record Enters (old new : Walk) (n : Node) (bound : List ℕ) (found : Option codec.ValueRef) : Type 0 where
  pub steps : (table : Table) (digest from : List ℕ) (usage : ℕ) → IsBound from (length old.path.items) bound →
      listing_steps (seen_node (seen_at table) (length old.path.items) digest n usage) old.path.items bound ++ steps_of table from old.path.items old.pending.items
      ≡ node digest ∷ value_steps new.path.items (option_map value_of found) ++ steps_of table from new.path.items new.pending.items
  pub walk : IsWalk new.path.items new.pending.items
  pub names : IfSome found (IsValueAt new.path.items)

pub record ChildPlace (kids : ℕ → Option (List ℕ)) (nibble depth : ℕ) (bound : List ℕ) (place : Place) : Type 0 where
  pub prefix : place.prefix ≡ depth
  pub depth_is : place_depth place ≡ depth + 1
  pub small : AreNibbles (at_most_one place.nibble)
  pub steps : (table : Table) (from path : List ℕ) → length path ≡ depth → IsBound from depth bound → child_steps table path bound kids nibble ≡ steps_at table from path place

-- The child at a nibble, as a place below a path of so many nibbles: its steps are those below the child, and there are none where there is no place.
abbrev pub IsChildPlace : (ℕ → Option (List ℕ)) → ℕ → ℕ → List ℕ → Option Place → Type 0
IsChildPlace kids nibble depth bound None = (table : Table) (path : List ℕ) → child_steps table path bound kids nibble ≡ []
IsChildPlace kids nibble depth bound (Some place) = ChildPlace kids nibble depth bound place
