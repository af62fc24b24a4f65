-- What stood at a place before the batch, as far as it is known before the place is visited, and what the batch visits below it and makes of it.
use Rattle.std.specs.Prelude.{◌≡◌, ◌≢◌, ℕ, ◌+◌, ◌*◌, ◌≤◌, ◌==◌, if◌then◌else◌, true, false, List, [], drop, length, Option, None, Some, ⊤}
use Rattle.byte_model.specs.PackedPath.{longest_path}
use Rattle.trie_model.specs.Root.{Table}
use Rattle.visit_model.specs.Seen as seen
use Rattle.visit_model.specs.Seen.{Seen, seen_at, stated_usage}
use Rattle.batch_model.specs.Changes.{Change}
use Rattle.change_model.specs.Visits.{Visits, no_visits, changes_behind, where_touched, if_touched, visits_at, is_left, most_usage}
use Rattle.base_core.specs.declared.hash.Digest.{Digest}
use Rattle.node_codec.specs.Meanings.{value_of, children_in}
use Rattle.update_model.specs.Sound.{StandsAt}
use Rattle.update_model.specs.Tops.{Top, empty, leaf, branch, extension, lowered, top_behind, top_usage}
use Rattle.update_model.specs.Joins.{Kid, known, is_there}
use Rattle.update_model.specs.Updates.{Outcome, behind_outcome, kid_after, kid_outcome, laid, updated}
use Rattle.update_model.specs.Growth.{growth}
use Rattle.trie_update.specs.declared.old.Old.{Old}
use Rattle.trie_update.specs.declared.old.Old.TheVariants.{Nothing, Leaf, Extension}
use Rattle.trie_update.specs.declared.former.Former.{Former}
use Rattle.trie_update.specs.declared.former.Former.TheVariants as former
use Rattle.trie_update.specs.declared.former.Parent.{Parent}
use Rattle.trie_update.specs.declared.former.Parent.TheVariants as parent

-- A child of a branch that was read, maybe none; or nothing, a leaf or nibbles before a branch, with what is seen of that branch.
pub data Place : Type 0 where
  of_branch : (child : Seen) → Place
  over : (below : Seen) (top : Top) → Place

-- ---- what is visited, and what becomes of it

-- where changes reach the branch
unfoldable pub top_visits : Seen → Top → List Change → Visits
top_visits below empty changes = no_visits
top_visits below (leaf path ref) changes = no_visits
top_visits below (branch digest used) changes = where_touched changes (visits_at below changes)
top_visits below (extension path digest used) changes = where_touched (changes_behind path changes) (visits_at below (changes_behind path changes))

unfoldable pub top_stated : Seen → Top → List Change → ℕ
top_stated below empty changes = 0
top_stated below (leaf path ref) changes = 0
top_stated below (branch digest used) changes = if_touched changes (stated_usage below)
top_stated below (extension path digest used) changes = if_touched (changes_behind path changes) (stated_usage below)

unfoldable pub place_visits : Place → List Change → Visits
place_visits (of_branch child) changes = where_touched changes (visits_at child changes)
place_visits (over below top) changes = where_touched changes (top_visits below top changes)

unfoldable pub place_stated : Place → List Change → ℕ
place_stated (of_branch child) changes = if_touched changes (stated_usage child)
place_stated (over below top) changes = if_touched changes (top_stated below top changes)

unfoldable pub place_outcome : Place → List Change → Outcome
place_outcome (of_branch child) changes = kid_outcome changes (updated child changes)
place_outcome (over below top) changes = behind_outcome (laid (λ cs. updated below cs)) top changes

unfoldable pub place_kid : Place → List Change → Kid
place_kid (of_branch child) changes = kid_after child changes (updated child changes)
place_kid (over below top) changes = known (behind_outcome (laid (λ cs. updated below cs)) top changes).top

-- ---- what it keeps to

-- Of a place that was visited: something is there afterwards where something is left, it stands there, and uses no more than it stated and what the changes add.
pub record Keeps (depth : ℕ) (s : Seen) (changes : List Change) : Type 0 where
  pub left : is_there (known (updated s changes).top) ≡ is_left s changes
  pub stands : StandsAt depth (updated s changes).top
  pub grows : top_usage (updated s changes).top ≤ stated_usage s + length changes * growth depth
  pub most : stated_usage s ≤ most_usage

unfoldable pub TopKeeps : ℕ → Seen → Top → List Change → Type 0
TopKeeps depth below empty changes = ⊤
TopKeeps depth below (leaf path ref) changes = ⊤
TopKeeps depth below (branch digest used) changes = changes ≢ [] → Keeps depth below changes
TopKeeps depth below (extension path digest used) changes = changes_behind path changes ≢ [] → Keeps (depth + length path) below (changes_behind path changes)

unfoldable pub PlaceKeeps : ℕ → Place → List Change → Type 0
PlaceKeeps depth (of_branch child) changes = changes ≢ [] → Keeps depth child changes
PlaceKeeps depth (over below top) changes = TopKeeps depth below top changes

-- ---- in the code

-- what stood before, behind so many of its nibbles
unfoldable pub old_past : ℕ → Old → Top
old_past count Nothing = empty
old_past count (Leaf path value) = leaf (drop count path.now) (value_of value)
old_past count (Extension path child used) = lowered (drop count path.now) (branch child.0 used)

-- what is seen of the branch that it leads to
unfoldable pub seen_past : Table → ℕ → ℕ → Old → Seen
seen_past table depth count Nothing = seen.nothing
seen_past table depth count (Leaf path value) = seen.nothing
seen_past table depth count (Extension path child used) = seen_at table (depth + length (drop count path.now)) true child.0

-- it leads to a branch, whose digest this is
abbrev pub led_by : ℕ → Old → Option Digest
led_by count Nothing = None
led_by count (Leaf path value) = None
led_by count (Extension path child used) = if length path.now == count then Some child else None

-- its path has so many nibbles
abbrev pub Reaches : ℕ → Old → Type 0
Reaches count Nothing = ⊤
Reaches count (Leaf path value) = count ≤ length path.now
Reaches count (Extension path child used) = count ≤ length path.now

-- a top that can stand at a depth, and the branch that it leads to, which states no more than it may
unfoldable pub MostTop : Top → Type 0
MostTop empty = ⊤
MostTop (leaf path ref) = ⊤
MostTop (branch digest used) = used ≤ most_usage
MostTop (extension path digest used) = used ≤ most_usage

abbrev pub NoBranch : Top → Type 0
NoBranch empty = ⊤
NoBranch (leaf path ref) = ⊤
NoBranch (branch digest used) = ⊥
NoBranch (extension path digest used) = ⊤

pub record FitsTop (depth : ℕ) (top : Top) : Type 0 where
  pub stands : StandsAt depth top
  pub most : MostTop top

-- what is seen below matters only where a branch is below
abbrev pub only_before : Top → Seen → Seen
only_before empty below = seen.nothing
only_before (leaf path ref) below = seen.nothing
only_before (branch digest used) below = below
only_before (extension path digest used) below = below

abbrev pub over_behind : ℕ → Seen → Top → Place
over_behind x below top = over (only_before (top_behind x top) below) (top_behind x top)

abbrev pub kid_place : Table → ℕ → Option (List ℕ) → Place
kid_place table depth None = over seen.nothing empty
kid_place table depth (Some digest) = of_branch (seen_at table depth false digest)

unfoldable pub place_of : Table → ℕ → Former → Place
place_of table depth (former.Known old) = over (seen_past table depth 0 old) (old_past 0 old)
place_of table depth (former.Named digest) = of_branch (seen_at table depth false digest.0)

-- what stood behind a nibble of a place at a depth
unfoldable pub place_behind : Table → ℕ → Parent → ℕ → Place
place_behind table depth (parent.Path old count) x = over_behind x (seen_past table depth count old) (old_past count old)
place_behind table depth (parent.Branch kids) x = kid_place table (depth + 1) (children_in kids.now x)

-- the names of the children that it had
abbrev pub parent_names : Parent → ℕ → Option (List ℕ)
parent_names (parent.Path old count) = λ x. None
parent_names (parent.Branch kids) = children_in kids.now

abbrev pub FitsFormer : ℕ → Former → Type 0
FitsFormer depth (former.Known old) = FitsTop depth (old_past 0 old)
FitsFormer depth (former.Named digest) = ⊤

-- a place at a depth that parts into what stood behind its nibbles
abbrev pub FitsParent : ℕ → Parent → Type 0
FitsParent depth (parent.Path old count) = FitsTop depth (old_past count old) × NoBranch (old_past count old) × Reaches count old
FitsParent depth (parent.Branch kids) = depth + 1 ≤ longest_path
