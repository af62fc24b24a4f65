-- The entries of the hash table against the maps that they are seen as.
use Rattle.std.proofs.Common.{◌≡◌, ℕ, cond, List, [], length, Option, None, Some, ap}
use Rattle.std.specs.Prelude.{nat_eq}
use Rattle.std.specs.Option.{option_map}
use Rattle.std.specs.Map.{keys_of}
use Rattle.std.specs.List.{IsDistinct}
use Rattle.std.specs.Cmp.Lexicographic.{pointwise}
use Rattle.std.specs.FinMap.{FinMap, get, insert, remove, len}
use Rattle.base_core.specs.declared.hash.Digest.{Digest}
use Rattle.base_core.proofs.ByteMaps.{order}
use Rattle.base_core.proofs.HashTables as tables
use Rattle.text_store.specs.declared.held.Held.{Held}

abbrev pub Entries : Type 0
Entries = List (Digest × Held)

abbrev bytes_of : Digest → List ℕ
bytes_of d = d.0

-- what the table has under a digest
abbrev pub found : Entries → List ℕ → Option Held
found = tables.found bytes_of

module _ {X : Type 0} (f : Held → X) where
  -- the map that shows f of what is held
  abbrev pub seen : Entries → FinMap order X
  seen = tables.seen bytes_of f

  pub get-seen : (es : Entries) (q : List ℕ) → get (seen es) q ≡ option_map f (found es q)
  get-seen = tables.get-seen bytes_of f

  -- tables that answer alike are seen as one map
  pub seen-same : (es fs : Entries) → ((q : List ℕ) → found fs q ≡ found es q) → seen fs ≡ seen es
  seen-same = tables.seen-same bytes_of f

  -- what is put under a digest is put there in the map
  pub seen-put : (es fs : Entries) (d : List ℕ) (h : Held) → ((q : List ℕ) → found fs q ≡ cond (pointwise nat_eq d q) (Some h) (found es q)) → seen fs ≡ insert (seen es) d (f h)
  seen-put = tables.seen-put bytes_of f

  -- what is taken from a digest is taken there from the map
  pub seen-taken : (es fs : Entries) (d : List ℕ) → ((q : List ℕ) → found fs q ≡ cond (pointwise nat_eq d q) None (found es q)) → seen fs ≡ remove (seen es) d
  seen-taken = tables.seen-taken bytes_of f

-- the table without entries
pub found-none : (es : Entries) → es ≡ [] → (q : List ℕ) → found es q ≡ None
found-none es e q = ap (λ xs. found xs q) e

-- how many there are
pub len-seen : {X : Type 0} (f : Held → X) (es : Entries) → IsDistinct (λ (a b : Digest). pointwise nat_eq a.0 b.0) (keys_of es) → len (seen f es) ≡ length es
len-seen f = tables.len-seen bytes_of f
