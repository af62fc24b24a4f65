-- Maps by keys that are kept in a tree, with no more keys than may be: when they are within their limits, and why a key is refused.
use Rattle.std.specs.Prelude.{ℕ, ◌≤◌, List, map, length, nat_le, nat_lt, ◌&&◌, not, IsTrue, Option, None, Some, if◌then◌else◌, Vec}
use Rattle.std.specs.List.{AllByRecursion}
use Rattle.std.specs.Ordering.{nat_cmp}
use Rattle.std.specs.Cmp.Lexicographic.{slice_cmp}
use Rattle.std.specs.FinMap.{FinMap, from_sorted, entries, contains_key}
use Rattle.std.specs.FinMap.Entries.{is_sorted}
use Rattle.std.specs.declared.alloc.Global.{Global}
use Rattle.byte_model.specs.Node.{longest_value}
use Rattle.trie_model.specs.State.{longest_key}
use Rattle.base_core.specs.declared.put_error.PutError.{PutError}
use Rattle.base_core.specs.declared.put_error.PutError.TheVariants.{KeyLong, ValueLong, Full}

-- the entries of a tree, by rising keys
abbrev pub Kept : Type 0 → Type 0
Kept X = List (Vec ℕ Global × X)

-- a map in the order of the keys' bytes
abbrev pub KeyMap : Type 0 → Type 0
KeyMap X = FinMap (slice_cmp nat_cmp) X

-- the entries as they are seen, and the map that they are
abbrev pub shown_entries : {X : Type 0} → Kept X → List (List ℕ × X)
shown_entries es = map (λ e. (e.0.items, e.1)) es

abbrev pub shown_map : {X : Type 0} → Kept X → KeyMap X
shown_map es = from_sorted (shown_entries es)

-- Each entry is one that may be, and there are no more than `most`, which is no more than `bound`.
pub record IsWithin {X : Type 0} (IsEntry : List ℕ × X → Type 0) (bound : ℕ) (held : KeyMap X) (most : ℕ) : Type 0 where
  pub each : AllByRecursion IsEntry (entries held)
  pub few : length (entries held) ≤ most
  pub bounded : most ≤ bound

pub record IsKeptSorted {X : Type 0} (IsEntry : List ℕ × X → Type 0) (bound : ℕ) (es : Kept X) (most : ℕ) : Type 0 where
  pub sorted : IsTrue (is_sorted (slice_cmp nat_cmp) (shown_entries es))
  pub held : IsWithin IsEntry bound (shown_map es) most

-- why a key with a value is not taken, if it is not
abbrev pub refusal_of : {X : Type 0} → KeyMap X → ℕ → List ℕ → List ℕ → Option PutError
refusal_of held most key value =
    if nat_lt longest_key (length key) then Some (KeyLong (length key))
    else if nat_lt longest_value (length value) then Some (ValueLong (length value))
    else if nat_le most (length (entries held)) && not (contains_key held key) then Some Full
    else None
