-- What holds of the tables, as they begin and as a block is added.
use Rattle.std.proofs.Common.{◌≡◌, ℕ, ◌≤◌, ◌<◌, ◌+◌, cond, List, [], length, Option, None, Some, is_some, min, refl, sym, ap, subst, ◌∙◌, arith}
use Rattle.std.specs.List.{AllByRecursion, IsDistinct}
use Rattle.std.specs.Map.{keys_of}
use Rattle.std.specs.Prelude.{nat_eq}
use Rattle.std.specs.Cmp.Lexicographic.{nat_list_cmp_total, pointwise}
use Rattle.std.specs.FinMap.{entries, get, insert, len, get-empty, len-entries, len-insert}
use Rattle.trie_model.specs.State.{State, IsPair}
use Rattle.batch_model.specs.Changes.{Changes, IsChange, after}
use Rattle.batch_model.proofs.Laying.{all_of_get}
use Rattle.base_core.specs.Bounds.{most_blocks}
use Rattle.base_core.specs.declared.hash.Digest.{Digest}
use Rattle.base_core.proofs.ByteMaps.{order}
use Rattle.flat_store.specs.Kept.{AreListed, Batches, ByKey, IsKept, Lists, changes_of, deltas_of, head_of, room}
use Rattle.flat_store.proofs.Listing.{listed-added, no-changes}
use Rattle.flat_store.specs.Flats.{Deltas}
use Rattle.flat_store.proofs.Filling.{found-not}
use Rattle.flat_store.proofs.Passing.{after-empty}
use Rattle.flat_store.proofs.Tables.{batch_at, deltas-length, map-empty}

pub kept-none : (values : ByKey (List ℕ)) (batches : Batches) (lists : Lists) → values ≡ [] → batches ≡ [] → IsKept None values batches lists
kept-none values batches lists no_values no_batches = record {
  pairs = all_of_get IsPair (head_of values) (λ q v found. absurd (found-not _ v (ap (λ (m : State). get m q) (map-empty values no_values) ∙ get-empty order q) found));
  few = subst (λ (es : Batches). length es ≤ most_blocks) (sym no_batches) (omega arith);
  listed = λ id key some. no-changes batches id key (sym (ap (λ (es : Batches). batch_at es id) no_batches)) some;
}

pub kept-added : (newest : Option Digest) (values : ByKey (List ℕ)) (es fs : Batches) (lists : Lists) (deltas : Deltas) (d : Digest) (changes : Changes) → IsKept newest values es lists → newest ≡ None → deltas_of es ≡ deltas
    → IsDistinct (λ (a b : Digest). pointwise nat_eq a.0 b.0) (keys_of fs) → deltas_of fs ≡ insert deltas d.0 changes → get deltas d.0 ≡ None → length (entries deltas) < most_blocks → IsKept (Some d) values fs lists
kept-added newest values es fs lists deltas d changes kept none same apart put new few =
    let count : len (insert deltas d.0 changes) ≡ len deltas + 1 = len-insert nat_list_cmp_total deltas d.0 changes ∙ ap (λ b. cond b (len deltas) (len deltas + 1)) (ap is_some new) in
    let all : length fs ≡ length (entries (insert deltas d.0 changes)) = sym (deltas-length fs apart) ∙ ap (λ (m : Deltas). length (entries m)) put in
    let first = len-entries (insert deltas d.0 changes) in
    let second = len-entries deltas in
    let before : AreListed None deltas lists = subst (λ (ds : Deltas). AreListed None ds lists) same (subst (λ (n : Option Digest). AreListed n (deltas_of es) lists) none kept.listed) in
    record {
      pairs = kept.pairs;
      few = omega (arith, count, all, first, second, few);
      listed = subst (λ (ds : Deltas). AreListed (Some d) ds lists) (sym put) (listed-added deltas d changes lists before);
    }

-- ---- room for one more

pub room-there : (newest : Option Digest) (n m : ℕ) → room newest n ≡ m → 1 ≤ m → (newest ≡ None) × (1 ≤ n)
room-there None n m e h = (refl, (let e : min 1 n ≡ m = e in omega (arith, e, h)))
room-there (Some d) n m e h = let e : 0 ≡ m = e in absurd (omega (arith, e, h))

pub room-one : (newest : Option Digest) (n m : ℕ) → room newest n ≡ m → m ≤ 0 + 1
room-one None n m e = let e : min 1 n ≡ m = e in omega (arith, e)
room-one (Some d) n m e = let e : 0 ≡ m = e in omega (arith, e)

pub room-more : (newest : Option Digest) (n m old : ℕ) → room newest n ≡ old → n ≤ m → old ≤ room newest m
room-more None n m old e h = let e : min 1 n ≡ old = e in omega (arith, e, h)
room-more (Some d) n m old e h = let e : 0 ≡ old = e in omega (arith, e)

pub room-settled : (newest : Option Digest) (n m old : ℕ) → room newest n ≡ old → n ≤ m → old ≤ min 1 m
room-settled None n m old e h = let e : min 1 n ≡ old = e in omega (arith, e, h)
room-settled (Some d) n m old e h = let e : 0 ≡ old = e in omega (arith, e)

-- no changes are within the limits
pub changes-none : (es : ByKey (Option (List ℕ))) → es ≡ [] → AllByRecursion IsChange (entries (changes_of es))
changes-none es none = all_of_get IsChange (changes_of es) (λ q v found. absurd (found-not _ v (ap (λ (m : Changes). get m q) (map-empty es none) ∙ get-empty order q) found))

pub after-none : (es : ByKey (Option (List ℕ))) (state : State) → es ≡ [] → after state (changes_of es) ≡ state
after-none es state none = ap (after state) (map-empty es none) ∙ after-empty state
