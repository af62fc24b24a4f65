-- How it is kept: hash tables, one with the head's values by their keys, and one with the changes of each block by its id.
use Rattle.std.specs.Prelude.{◌≡◌, ℕ, ◌≤◌, ◌+◌, ◌||◌, min, true, false, if◌then◌else◌, List, [], ◌∷◌, map, length, Bool, Option, is_some, not, nat_eq, unwrap_or, Vec}
use Rattle.std.specs.Option.{option_and_then, option_map}
use Rattle.std.specs.Str.{bytes_eq}
use Rattle.std.specs.List.{AllByRecursion}
use Rattle.std.specs.Map.{lookup}
use Rattle.std.specs.Cmp.Lexicographic.{pointwise}
use Rattle.std.specs.FinMap.{from_entries, entries, get, retain_keys}
use Rattle.std.specs.declared.alloc.Global.{Global}
use Rattle.trie_model.specs.State.{State, IsPair}
use Rattle.batch_model.specs.Changes.{Changes}
use Rattle.base_core.specs.Bounds.{most_blocks}
use Rattle.base_core.specs.ChangeMaps.{ChangeMap}
use Rattle.base_core.specs.declared.hash.Digest.{Digest}
use Rattle.fork_model.specs.Trees.{is_among}
use Rattle.flat_store.specs.Flats.{Deltas, delta_of}

-- the entries of a table by keys, and what it has at a key
abbrev pub ByKey : Type 0 → Type 0
ByKey X = List (Vec ℕ Global × X)

abbrev pub held : {X : Type 0} → ByKey X → List ℕ → Option X
held es key = lookup (λ (k : Vec ℕ Global). pointwise nat_eq key k.items) es

-- the entries of the table of changes
abbrev pub Batches : Type 0
Batches = List (Digest × ChangeMap)

-- the map of the head, the changes of each block, and changes that are gathered from several blocks
abbrev pub head_of : ByKey (List ℕ) → State
head_of es = from_entries (map (λ e. (e.0.items, e.1)) es)

abbrev pub deltas_of : Batches → Deltas
deltas_of batches = from_entries (map (λ e. (e.0.0, e.1.changes)) batches)

abbrev pub changes_of : ByKey (Option (List ℕ)) → Changes
changes_of es = from_entries (map (λ e. (e.0.items, e.1)) es)

-- the pairs of the head whose keys are not among those changed
abbrev pub unchanged : ByKey (List ℕ) → ByKey (Option (List ℕ)) → State
unchanged head newest = retain_keys (head_of head) (λ key. not (is_some (held newest key)))

-- how many keys some blocks change, each block by itself
unfoldable pub keys_along : Deltas → List (List ℕ) → ℕ
keys_along deltas [] = 0
keys_along deltas (id ∷ ids) = length (entries (delta_of deltas id)) + keys_along deltas ids

-- ---- the index: of each key the blocks that change it

abbrev pub Lists : Type 0
Lists = ByKey (Vec Digest Global)

abbrev pub ids_in : List Digest → List (List ℕ)
ids_in ids = map (λ id. id.0) ids

-- the blocks that are listed under a key
abbrev pub listed_at : Lists → List ℕ → List (List ℕ)
listed_at lists key = unwrap_or (option_map (λ ids. ids_in ids.items) (held lists key)) []

-- what a block's changes make of a key
abbrev pub change_at : Deltas → (id key : List ℕ) → Option (Option (List ℕ))
change_at deltas id key = option_and_then (λ changes. get changes key) (get deltas id)

-- the newest block may not be listed yet
abbrev pub is_newest : Option Digest → List ℕ → Bool
is_newest newest id = unwrap_or (option_map (λ d. bytes_eq id d.0) newest) false

-- A block that changes a key is listed under it, or is the newest. Others may be listed there too.
abbrev pub AreListed : Option Digest → Deltas → Lists → Type 0
AreListed newest deltas lists = (id key : List ℕ) → is_some (change_at deltas id key) ≡ true → (is_newest newest id || is_among id (listed_at lists key)) ≡ true

-- the newest block does not change the key, if it is this one
abbrev pub IsClear : Option Digest → Deltas → (key id : List ℕ) → Type 0
IsClear newest deltas key id = is_newest newest id ≡ true → is_some (change_at deltas id key) ≡ false

-- blocks that have changes stay listed
abbrev pub StayListed : Deltas → (old new : Lists) → Type 0
StayListed deltas old new = (id key : List ℕ) → is_some (get deltas id) ≡ true → is_among id (listed_at old key) ≡ true → is_among id (listed_at new key) ≡ true

-- there is room for one more, once the newest is listed
abbrev pub room : Option Digest → ℕ → ℕ
room newest spare = if is_some newest then 0 else min 1 spare

-- Keys and values are within the limits, no more blocks have changes than may be live, and the index has them all.
pub record IsKept (newest : Option Digest) (values : ByKey (List ℕ)) (batches : Batches) (lists : Lists) : Type 0 where
  pub pairs : AllByRecursion IsPair (entries (head_of values))
  pub few : length batches ≤ most_blocks
  pub listed : AreListed newest (deltas_of batches) lists
