-- What a batch visits over any set of texts, in order, and the first test that fails. It is told by the tree of what can be seen, and each place by the changes below it, so that no test looks at a text that is not visited.
use Rattle.std.specs.Prelude.{ℕ, zero, suc, ◌+◌, ◌^◌, ◌||◌, not, nat_lt, Bool, true, false, List, [], ◌∷◌, ◌++◌, length, Option, None, Some, is_some, is_none, if◌then◌else◌}
use Rattle.std.specs.Option.{option_map}
use Rattle.std.specs.List.{filter_map, list_any}
use Rattle.byte_model.specs.Below.{sum_below}
use Rattle.byte_model.specs.PackedPath.{packed}
use Rattle.byte_model.specs.Node.{ValueRef, cost_of}
use Rattle.trie_model.specs.Tree.{rest_behind}
use Rattle.trie_model.specs.Root.{Table}
use Rattle.visit_model.specs.Seen.{Seen, nothing, missing, bad, leaf, branch, extension, seen, stated_usage}
use Rattle.batch_model.specs.Changes.{Changes, Change, change_rows, found_at}

-- ---- how a batch ends

-- the test that failed: no text is held under a digest; the text there is no node that fits; its record states a usage that no state's has
pub data Refusal : Type 0 where
  no_text : (digest : List ℕ) → Refusal
  no_node : (digest : List ℕ) → Refusal
  no_usage : (digest : List ℕ) → Refusal

-- the digests of the places that were visited, in order, and the test that failed, if one did
pub record Visits : Type 0 where
  pub digests : List (List ℕ)
  pub refusal : Option Refusal

abbrev pub no_visits : Visits
no_visits = record { digests = []; refusal = None }

-- a visit that ends the batch
abbrev pub refused : List ℕ → Refusal → Visits
refused digest why = record { digests = digest ∷ []; refusal = Some why }

-- some visits, and further ones where no test failed
unfoldable pub and_then : Option Refusal → List (List ℕ) → Visits → Visits
and_then None digests further = record { digests = digests ++ further.digests; refusal = further.refusal }
and_then (Some why) digests further = record { digests = digests; refusal = Some why }

abbrev pub before : Visits → Visits → Visits
before first further = and_then first.refusal first.digests further

-- those of f 0, f 1 .. f (n - 1), in this order
unfoldable pub visits_below : (ℕ → Visits) → ℕ → Visits
visits_below f zero = no_visits
visits_below f (suc n) = before (visits_below f n) (f n)

-- ---- the tests on usages

-- the most that the record of a visited place may state
abbrev pub most_usage : ℕ
most_usage = 2 ^ 62

-- a place that was read: it states no more than that
unfoldable pub opened : List ℕ → ℕ → Visits
opened digest usage = record { digests = digest ∷ []; refusal = if nat_lt most_usage usage then Some (no_usage digest) else None }

-- a place after all that is visited below it: it states no less than it costs by itself and its visited children state
unfoldable pub closed : List ℕ → ℕ → ℕ → Visits
closed digest usage parts = record { digests = []; refusal = if nat_lt usage parts then Some (no_usage digest) else None }

-- what the node of a place costs by itself
abbrev pub leaf_cost : List ℕ → ValueRef → ℕ
leaf_cost path ref = cost_of (length (packed true path)) (Some ref.length)

abbrev pub branch_cost : Option ValueRef → ℕ
branch_cost ref = cost_of 0 (option_map (λ r. r.length) ref)

abbrev pub extension_cost : List ℕ → ℕ
extension_cost path = cost_of (length (packed false path)) None

-- ---- the changes below a place

-- the changes whose paths have a prefix, each with what is left of its path
unfoldable pub changes_behind : List ℕ → List Change → List Change
changes_behind prefix changes = filter_map (λ change. option_map (λ rest. (rest, change.1)) (rest_behind prefix change.0)) changes

abbrev pub is_untouched : List Change → Bool
is_untouched [] = true
is_untouched (change ∷ changes) = false

-- whether one of them sets a key
abbrev pub sets_some : List Change → Bool
sets_some changes = list_any (λ change. is_some change.1) changes

-- what the change of a path makes of it, if there is one
abbrev pub change_at : List ℕ → List Change → Option (Option (List ℕ))
change_at path changes = found_at path changes

-- whether the key of a path is deleted
abbrev pub is_deletion : Option (Option (List ℕ)) → Bool
is_deletion None = false
is_deletion (Some value) = is_none value

abbrev pub is_deleted : List ℕ → List Change → Bool
is_deleted path changes = is_deletion (change_at path changes)

-- whether a branch has a value after the changes below it
abbrev pub is_some_after : Option ValueRef → Option (Option (List ℕ)) → Bool
is_some_after ref None = is_some ref
is_some_after ref (Some value) = is_some value

abbrev pub has_value_after : Option ValueRef → List Change → Bool
has_value_after ref changes = is_some_after ref (change_at [] changes)

-- ---- what is left below a place

abbrev pub is_named : Seen → Bool
is_named nothing = false
is_named (missing digest) = true
is_named (bad digest) = true
is_named (leaf digest usage path ref) = true
is_named (branch digest usage ref kids) = true
is_named (extension digest usage path child) = true

-- whether one of f 0, f 1 .. f (n - 1) holds
unfoldable pub any_below : (ℕ → Bool) → ℕ → Bool
any_below f zero = false
any_below f (suc n) = any_below f n || f n

-- Below a path something is left where a key is set there; where a child is named there and no change stands below it; and where a visited place there holds a value that is not deleted, or something is left below one of its children.
unfoldable pub is_left : Seen → List Change → Bool
is_left nothing changes = sets_some changes
is_left (missing digest) changes = is_untouched changes || sets_some changes
is_left (bad digest) changes = is_untouched changes || sets_some changes
is_left (leaf digest usage path ref) changes = is_untouched changes || sets_some changes || not (is_deleted path changes)
is_left (branch digest usage ref kids) changes =
    is_untouched changes || sets_some changes || has_value_after ref changes || any_below (λ x. is_left (kids x) (changes_behind (x ∷ []) changes)) 16
is_left (extension digest usage path child) changes = is_untouched changes || sets_some changes || is_left child (changes_behind path changes)

-- the numbers below n at which a test holds, by rising number
unfoldable pub numbers_below : (ℕ → Bool) → ℕ → List ℕ
numbers_below f zero = []
numbers_below f (suc n) = numbers_below f n ++ (if f n then n ∷ [] else [])

-- the nibble of the child that a branch is left with, where that is all that is left of it and no change stands below the child
abbrev pub lone_child : Bool → List ℕ → List Change → Option ℕ
lone_child true left changes = None
lone_child false [] changes = None
lone_child false (x ∷ []) changes = if is_untouched (changes_behind (x ∷ []) changes) then Some x else None
lone_child false (x ∷ y ∷ left) changes = None

abbrev pub merged_child : Option ValueRef → (ℕ → Seen) → List Change → Option ℕ
merged_child ref kids changes =
    lone_child (has_value_after ref changes) (numbers_below (λ x. is_left (kids x) (changes_behind (x ∷ []) changes)) 16) changes

-- ---- the visits

-- the visit of a place below which no change stands
unfoldable pub visit_alone : Seen → Visits
visit_alone nothing = no_visits
visit_alone (missing digest) = refused digest (no_text digest)
visit_alone (bad digest) = refused digest (no_node digest)
visit_alone (leaf digest usage path ref) = before (opened digest usage) (closed digest usage (leaf_cost path ref))
visit_alone (branch digest usage ref kids) = before (opened digest usage) (closed digest usage (branch_cost ref))
visit_alone (extension digest usage path child) = before (opened digest usage) (closed digest usage (extension_cost path))

-- the visits of what a batch touches, where there is something
abbrev pub where_touched : List Change → Visits → Visits
where_touched [] visits = no_visits
where_touched (change ∷ changes) visits = visits

-- what a child states, if it is visited
abbrev pub if_touched : List Change → ℕ → ℕ
if_touched [] n = 0
if_touched (change ∷ changes) n = n

-- of the child that is merged, if one is
abbrev pub merge_visits : (ℕ → Seen) → Option ℕ → Visits
merge_visits kids None = no_visits
merge_visits kids (Some x) = visit_alone (kids x)

abbrev pub merge_usage : (ℕ → Seen) → Option ℕ → ℕ
merge_usage kids None = 0
merge_usage kids (Some x) = stated_usage (kids x)

-- A place, then what is touched below it by rising path, then the child that is merged, and then the test of what the place states.
unfoldable pub visits_at : Seen → List Change → Visits
visits_at nothing changes = no_visits
visits_at (missing digest) changes = refused digest (no_text digest)
visits_at (bad digest) changes = refused digest (no_node digest)
visits_at (leaf digest usage path ref) changes = before (opened digest usage) (closed digest usage (leaf_cost path ref))
visits_at (branch digest usage ref kids) changes =
    before (opened digest usage)
    (before (visits_below (λ x. where_touched (changes_behind (x ∷ []) changes) (visits_at (kids x) (changes_behind (x ∷ []) changes))) 16)
    (before (merge_visits kids (merged_child ref kids changes))
    (closed digest usage (branch_cost ref + (sum_below (λ x. if_touched (changes_behind (x ∷ []) changes) (stated_usage (kids x))) 16 + merge_usage kids (merged_child ref kids changes))))))
visits_at (extension digest usage path child) changes =
    before (opened digest usage)
    (before (where_touched (changes_behind path changes) (visits_at child (changes_behind path changes)))
    (closed digest usage (extension_cost path + if_touched (changes_behind path changes) (stated_usage child))))

-- over a set of texts and a root: an empty batch visits nothing
abbrev pub batch_visits : Table → List ℕ → Changes → Visits
batch_visits table root changes = where_touched (change_rows changes) (visits_at (seen table root) (change_rows changes))
