-- What stood below a place, as far as it is known without a further load.
use Rattle.std.specs.Prelude.{◌≡◌, ℕ, ◌+◌, ◌≤◌, ◌==◌, true, false, List, [], drop, take, length, Option, None, Some, if◌then◌else◌, ⊤}
use Rattle.byte_model.specs.Nibbles.{AreNibbles}
use Rattle.byte_model.specs.PackedPath.{longest_path}
use Rattle.byte_model.specs.Node.{longest_value}
use Rattle.visit_model.specs.Seen.{Seen, Looks, nothing, leaf, extension, seen_at, stated_usage}
use Rattle.trie_model.specs.Root.{Table}
use Rattle.batch_model.specs.Changes.{Change}
use Rattle.change_model.specs.Visits.{Visits, no_visits, changes_behind, where_touched, if_touched, visits_at}
use Rattle.node_codec.specs.declared.value_ref.ValueRef.{ValueRef}
use Rattle.node_codec.specs.Meanings.{value_of}
use Rattle.trie_shape.specs.declared.sub.Sub.{Sub}
use Rattle.trie_shape.specs.declared.sub.Sub.TheVariants as sub
use Rattle.trie_shape.specs.Shows.{under_of}
use Rattle.trie_shape.specs.Runs.{goes_on}
use Rattle.trie_update.specs.declared.old.Old.{Old}
use Rattle.trie_update.specs.declared.old.Old.TheVariants.{Nothing, Leaf, Extension}
use Rattle.trie_update.specs.ChangesAt.{Lent, changes_at, AllGoOn}

-- the nibbles before what it ends with
abbrev pub path_of : Old → List ℕ
path_of Nothing = []
path_of (Leaf path value) = path.now
path_of (Extension path child used) = path.now

-- What is seen there. Its own record was visited before, so no visit depends on its digest and usage.
abbrev pub seen_old : Looks → ℕ → Old → Seen
seen_old look depth Nothing = nothing
seen_old look depth (Leaf path value) = leaf [] 0 path.now (value_of value)
seen_old look depth (Extension path child used) = extension [] 0 path.now (look (depth + length path.now) true child.0)

-- what a batch visits below it, and what its branch states then
abbrev pub old_visits : Table → ℕ → Old → List Change → Visits
old_visits table depth Nothing changes = no_visits
old_visits table depth (Leaf path value) changes = no_visits
old_visits table depth (Extension path child used) changes = where_touched (changes_behind path.now changes) (visits_at (seen_at table (depth + length path.now) true child.0) (changes_behind path.now changes))

abbrev pub old_stated : Table → ℕ → Old → List Change → ℕ
old_stated table depth Nothing changes = 0
old_stated table depth (Leaf path value) changes = 0
old_stated table depth (Extension path child used) changes = if_touched (changes_behind path.now changes) (stated_usage (seen_at table (depth + length path.now) true child.0))

-- the value that it has where its path ends after so many nibbles
abbrev pub value_behind : ℕ → Old → Option ValueRef
value_behind count Nothing = None
value_behind count (Leaf path value) = if length path.now == count then Some value else None
value_behind count (Extension path child used) = None

-- One is what stood below the next nibble of the other, after so many.
abbrev pub IsBehind : ℕ → ℕ → Old → Old → Type 0
IsBehind count nibble Nothing behind = behind ≡ Nothing
IsBehind count nibble (Leaf path value) Nothing = goes_on nibble (drop count path.now) ≡ false
IsBehind count nibble (Leaf path value) (Leaf rest held) = (goes_on nibble (drop count path.now) ≡ true) × (rest.now ≡ drop (count + 1) path.now) × (held ≡ value)
IsBehind count nibble (Leaf path value) (Extension rest child used) = ⊥
IsBehind count nibble (Extension path child used) Nothing = goes_on nibble (drop count path.now) ≡ false
IsBehind count nibble (Extension path child used) (Leaf rest held) = ⊥
IsBehind count nibble (Extension path child used) (Extension rest named below) = (goes_on nibble (drop count path.now) ≡ true) × (rest.now ≡ drop (count + 1) path.now) × (named ≡ child) × (below ≡ used)

-- it as a subtree
abbrev pub sub_of : Old → Sub
sub_of Nothing = sub.Empty
sub_of (Leaf path value) = sub.Leaf path.now value
sub_of (Extension path child used) = under_of path.now (sub.Branch child used)

-- Its path may stand at a depth, and so may what it ends with.
abbrev pub FitsOld : ℕ → Old → Type 0
FitsOld depth Nothing = ⊤
FitsOld depth (Leaf path value) = AreNibbles path.now × (depth + length path.now ≤ longest_path) × (value.length ≤ longest_value)
FitsOld depth (Extension path child used) = AreNibbles path.now × (depth + length path.now ≤ longest_path)

-- All changes begin with so many nibbles of its path.
abbrev pub BeginAs : ℕ → List Lent → ℕ → List ℕ → Type 0
BeginAs depth changes count path = (count ≤ length path) × (changes_behind (take count path) (changes_at depth changes) ≡ changes_at (depth + count) changes)

abbrev pub BeginAsOld : ℕ → List Lent → ℕ → Old → Type 0
BeginAsOld depth changes count Nothing = ⊤
BeginAsOld depth changes count (Leaf path value) = BeginAs depth changes count path.now
BeginAsOld depth changes count (Extension path child used) = BeginAs depth changes count path.now

-- It goes on with the nibble x behind so many. Where nothing stood, no path parts from the changes.
abbrev pub GoesOnBehind : ℕ → ℕ → Old → Type 0
GoesOnBehind count x Nothing = ⊤
GoesOnBehind count x (Leaf path value) = goes_on x (drop count path.now) ≡ true
GoesOnBehind count x (Extension path child used) = goes_on x (drop count path.now) ≡ true

-- No nibble comes next in all changes and in it.
abbrev pub PartBehind : ℕ → List Lent → ℕ → Old → Type 0
PartBehind depth changes count old = (x : ℕ) → AllGoOn x (changes_at (depth + count) changes) → GoesOnBehind count x old → ⊥
