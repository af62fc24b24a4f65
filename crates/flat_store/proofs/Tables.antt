-- The hash tables against the maps that they are seen as.
use Rattle.std.proofs.Common.{◌≡◌, ℕ, Bool, true, false, cond, List, [], map, length, Option, None, Some, Vec, refl, sym, ap, subst, ◌∙◌}
use Rattle.std.specs.Prelude.{nat_eq}
use Rattle.std.specs.Option.{option_map}
use Rattle.std.specs.Map.{lookup, KeepsOthers, keys_of}
use Rattle.std.specs.List.{AllByRecursion, IsDistinct}
use Rattle.std.specs.Cmp.Lexicographic.{pointwise}
use Rattle.std.specs.FinMap.{FinMap, empty, get, from_entries, insert, remove, entries, len-entries}
use Rattle.std.specs.declared.alloc.Global.{Global}
use Rattle.trie_model.specs.State.{State, IsPair}
use Rattle.batch_model.specs.Changes.{Change, Changes, IsChange, after_change}
use Rattle.batch_model.proofs.Laying.{all_of_get, get_of_all, get-after_change, same_of_ties}
use Rattle.base_core.specs.ChangeMaps.{ChangeMap}
use Rattle.base_core.specs.declared.hash.Digest.{Digest}
use Rattle.base_core.proofs.ByteMaps.{order, is_same}
use Rattle.base_core.proofs.HashTables.{alike, found, get-seen, len-seen, seen-none, seen-put, seen-same, seen-taken, updated}
use Rattle.flat_store.specs.Kept.{Batches, ByKey, deltas_of, held}

option_map-itself : {X : Type 0} (o : Option X) → option_map (λ x. x) o ≡ o
option_map-itself None = refl
option_map-itself (Some x) = refl

-- ---- by keys

abbrev pub items_of : Vec ℕ Global → List ℕ
items_of k = k.items

abbrev pub same_items : Vec ℕ Global → Vec ℕ Global → Bool
same_items a b = pointwise nat_eq a.items b.items

module _ {X : Type 0} where
  abbrev pub map_of : ByKey X → FinMap order X
  map_of es = from_entries {R = order} (map (λ (e : Vec ℕ Global × X). (e.0.items, e.1)) es)

  pub get-map : (es : ByKey X) (q : List ℕ) → get (map_of es) q ≡ held es q
  get-map es q = get-seen items_of (λ v. v) es q ∙ option_map-itself (held es q)

  pub map-empty : (es : ByKey X) → es ≡ [] → map_of es ≡ empty
  map-empty = seen-none items_of (λ v. v)

  pub map-put : (es fs : ByKey X) (d key : List ℕ) (v : X) → d ≡ key → held fs d ≡ Some v → KeepsOthers same_items (λ k. pointwise nat_eq d k.items) es fs → map_of fs ≡ insert (map_of es) key v
  map-put es fs d key v same at others =
      seen-put items_of (λ x. x) es fs d v (updated items_of es fs d (Some v) at others) ∙ ap (λ k. insert (map_of es) k v) same

  pub map-taken : (es fs : ByKey X) (d key : List ℕ) → d ≡ key → held fs d ≡ None → KeepsOthers same_items (λ k. pointwise nat_eq d k.items) es fs → map_of fs ≡ remove (map_of es) key
  map-taken es fs d key same at others =
      seen-taken items_of (λ x. x) es fs d (updated items_of es fs d None at others) ∙ ap (λ k. remove (map_of es) k) same

  pub map-alike : (es fs : ByKey X) → ((k : Vec ℕ Global) → held fs k.items ≡ held es k.items) → map_of fs ≡ map_of es
  map-alike es fs same = seen-same items_of (λ x. x) es fs (alike items_of es fs same)

-- ---- by ids

abbrev id_of : Digest → List ℕ
id_of d = d.0

abbrev changes_in : ChangeMap → Changes
changes_in m = m.changes

-- what the table has under an id
abbrev pub batch_at : Batches → List ℕ → Option ChangeMap
batch_at batches id = lookup (λ (k : Digest). pointwise nat_eq id k.0) batches

pub get-deltas : (es : Batches) (q : List ℕ) → get (deltas_of es) q ≡ option_map changes_in (batch_at es q)
get-deltas = get-seen id_of changes_in

pub deltas-none : (es : Batches) → es ≡ [] → deltas_of es ≡ empty
deltas-none = seen-none id_of changes_in

pub deltas-put : (es fs : Batches) (d : List ℕ) (m : ChangeMap) → ((q : List ℕ) → batch_at fs q ≡ cond (pointwise nat_eq d q) (Some m) (batch_at es q)) → deltas_of fs ≡ insert (deltas_of es) d m.changes
deltas-put = seen-put id_of changes_in

pub deltas-taken : (es fs : Batches) (d : List ℕ) → ((q : List ℕ) → batch_at fs q ≡ cond (pointwise nat_eq d q) None (batch_at es q)) → deltas_of fs ≡ remove (deltas_of es) d
deltas-taken = seen-taken id_of changes_in

pub deltas-same : (es fs : Batches) → ((q : List ℕ) → batch_at fs q ≡ batch_at es q) → deltas_of fs ≡ deltas_of es
deltas-same = seen-same id_of changes_in

pub deltas-length : (es : Batches) → IsDistinct (λ (a b : Digest). pointwise nat_eq a.0 b.0) (keys_of es) → length (entries (deltas_of es)) ≡ length es
deltas-length es apart = sym (len-entries (deltas_of es)) ∙ len-seen id_of changes_in es apart

-- ---- what is within the limits

pub pairs-change : (state : State) (change : Change) → IsChange change → AllByRecursion IsPair (entries state) → AllByRecursion IsPair (entries (after_change state change))
pairs-change state (key, what) is all = all_of_get IsPair (after_change state (key, what)) (λ q v found. by_test q v (is_same q key) refl (sym (get-after_change state (key, what) q) ∙ found))
  where
    by_test : (q v : List ℕ) (b : Bool) → is_same q key ≡ b → cond b what (get state q) ≡ Some v → IsPair (q, v)
    by_test q v true same found =
        let change : IsChange (q, Some v) = subst (λ k. IsChange (k, Some v)) (sym (same_of_ties q key same)) (subst (λ w. IsChange (key, w)) found is) in
        record { key = change.key; key_length = change.key_length; value = change.value; value_length = change.value_length }
    by_test q v false other found = get_of_all IsPair state all q v found

-- one change, by what the key becomes
pub change-put : (state : State) (key v : List ℕ) (what : Option (List ℕ)) → what ≡ Some v → after_change state (key, what) ≡ insert state key v
unfolding after_change
change-put state key v what e = ap (λ w. after_change state (key, w)) e

pub change-taken : (state : State) (key : List ℕ) (what : Option (List ℕ)) → what ≡ None → after_change state (key, what) ≡ remove state key
unfolding after_change
change-taken state key what e = ap (λ w. after_change state (key, w)) e
