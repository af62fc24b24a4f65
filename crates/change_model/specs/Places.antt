-- Which places of a state a batch touches, and which places of the new state it writes. Nothing here knows of an update or of a stored node.
use Rattle.std.specs.Prelude.{ℕ, ◌-◌, ◌==◌, ◌&&◌, ◌||◌, not, nat_eq, Bool, true, false, List, ◌++◌, length, take, map, filter}
use Rattle.std.specs.List.{list_any, list_all}
use Rattle.std.specs.Cmp.Lexicographic.{pointwise}
use Rattle.byte_model.specs.Nibbles.{nibbles}
use Rattle.trie_model.specs.State.{State, Row, rows_of}
use Rattle.trie_model.specs.Tree as tree
use Rattle.trie_model.specs.Tree.{Tree}
use Rattle.trie_model.specs.Root.{subtree_at, places_of}
use Rattle.visit_model.specs.Bounds.{has_prefix}
use Rattle.batch_model.specs.Changes.{Changes, after, changed_paths}

-- whether one of some paths begins with a prefix
unfoldable pub leads_to : List (List ℕ) → List ℕ → Bool
leads_to paths prefix = list_any (λ path. has_prefix path prefix) paths

-- ---- touched places

unfoldable pub is_branch : Tree → Bool
is_branch tree.nothing = false
is_branch (tree.leaf path value) = false
is_branch (tree.branch value kids) = true
is_branch (tree.extension path child) = false

-- the place one nibble above
abbrev pub above : List ℕ → List ℕ
above place = take (length place - 1) place

-- whether all rows that stand below one path stand below another
abbrev pub all_stand_below : List Row → List ℕ → List ℕ → Bool
all_stand_below rows outer inner = list_all (λ row. not (has_prefix row.0 outer) || has_prefix row.0 inner) rows

-- Whether a place is all that remains below the branch above it: no change stands below the place, and whatever the new state has below that branch stands below it. So there is no branch any more, and the place's node joins what stands before it.
unfoldable pub remains_alone : State → Changes → List ℕ → Bool
remains_alone state changes place =
    not (length place == 0) && is_branch (subtree_at state (above place))
    && not (leads_to (changed_paths changes) place) && all_stand_below (rows_of (after state changes)) (above place) place

-- whether a place is on the path of a key that is read or changed, or remains alone
unfoldable pub is_touched : State → List (List ℕ) → Changes → List ℕ → Bool
is_touched state reads changes place = leads_to (map nibbles reads ++ changed_paths changes) place || remains_alone state changes place

-- the touched places, by rising path
abbrev pub touched_places : State → List (List ℕ) → Changes → List (List ℕ)
touched_places state reads changes = filter (is_touched state reads changes) (places_of state)

-- ---- written places

abbrev pub is_place_of : State → List ℕ → Bool
is_place_of state place = list_any (λ other. pointwise nat_eq other place) (places_of state)

-- whether a place of the new state is on the path of a changed key, or no place of the old state
unfoldable pub is_written : State → Changes → List ℕ → Bool
is_written state changes place = leads_to (changed_paths changes) place || not (is_place_of state place)

abbrev pub written_places : State → Changes → List (List ℕ)
written_places state changes = filter (is_written state changes) (places_of (after state changes))
