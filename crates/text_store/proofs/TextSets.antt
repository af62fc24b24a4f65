-- The keys of a tree against the set of texts that they are seen as.
use Rattle.std.proofs.Common.{◌≡◌, ℕ, ◌+◌, ◌≤◌, ◌<◌, ◌^◌, ◌||◌, Result, Ok, Err, OnOk, OnErr, Bool, true, false, cond, List, [], ◌∷◌, length, Option, Some, Less, Equal, Greater, Vec, inl, inr, refl, sym, ap, subst, ◌∙◌, arith}
use Rattle.std.proofs.lemmas.List.{length-map}
use Rattle.std.specs.Ordering.{match_ordering, is_eq}
use Rattle.std.specs.List.{AllByRecursion, list_any}
use Rattle.std.specs.List.Sorted.{IsStrictlySortedBy}
use Rattle.std.specs.Cmp.Lexicographic.{nat_list_cmp_total}
use Rattle.std.specs.BTreeSet.{insert_key}
use Rattle.std.specs.FinMap.{get, same_map, get-insert}
use Rattle.std.specs.declared.alloc.Global.{Global}
use Rattle.std.proofs.lemmas.Map.Lookups.{exact_bytes}
use Rattle.byte_model.specs.Nibbles.{AreBytes}
use Rattle.trie_model.proofs.Members.{IsIn}
use Rattle.partial_model.specs.Texts.{Rise, SetOfTexts, with_text, set_of, texts_in}
use Rattle.partial_model.specs.Partial.{IsPartial}
use Rattle.partial_model.proofs.Sets.{texts_in-set_of}
use Rattle.base_core.proofs.ByteMaps.{order, is_same, by_items}
use Rattle.text_store.specs.TextSets.{texts_of_keys, set_of_keys}

-- ---- texts put into a set

either_first : (a b : Bool) (x y : Option (Unit {0})) → x ≡ Some tt → cond a x (cond b x y) ≡ cond b x (cond a x y)
either_first true true x y e = refl
either_first true false x y e = refl
either_first false b x y e = refl

once : (a : Bool) (x y : Option (Unit {0})) → cond a x (cond a x y) ≡ cond a x y
once true x y = refl
once false x y = refl

get-with_text : (set : SetOfTexts) (t q : List ℕ) → get (with_text set t) q ≡ cond (is_same q t) (Some tt) (get set q)
get-with_text set t q = get-insert nat_list_cmp_total set t tt q

pub with_text-swap : (set : SetOfTexts) (t u : List ℕ) → with_text (with_text set t) u ≡ with_text (with_text set u) t
with_text-swap set t u = same_map nat_list_cmp_total exact_bytes _ _ (λ q.
    get-with_text (with_text set t) u q ∙ ap (cond (is_same q u) (Some tt)) (get-with_text set t q) ∙ either_first (is_same q u) (is_same q t) (Some tt) (get set q) refl
    ∙ sym (get-with_text (with_text set u) t q ∙ ap (cond (is_same q t) (Some tt)) (get-with_text set u q)))

pub with_text-again : (set : SetOfTexts) (t : List ℕ) → with_text (with_text set t) t ≡ with_text set t
with_text-again set t = same_map nat_list_cmp_total exact_bytes _ _ (λ q.
    get-with_text (with_text set t) t q ∙ ap (cond (is_same q t) (Some tt)) (get-with_text set t q) ∙ once (is_same q t) (Some tt) (get set q) ∙ sym (get-with_text set t q))

pub set_of-in : (ts : List (List ℕ)) (t : List ℕ) → IsIn ts t → with_text (set_of ts) t ≡ set_of ts
set_of-in [] t h = absurd h
set_of-in (x ∷ ts) t (inl is) = subst (λ (u : List ℕ). with_text (with_text (set_of ts) x) u ≡ with_text (set_of ts) x) is (with_text-again (set_of ts) x)
set_of-in (x ∷ ts) t (inr h) = with_text-swap (set_of ts) x t ∙ ap (λ (set : SetOfTexts). with_text set x) (set_of-in ts t h)

-- ---- the keys of a tree

pub in_by_test : (q : List ℕ) (keys : List (Vec ℕ Global)) → list_any (λ key. is_eq (order q key.items)) keys ≡ true → IsIn (texts_of_keys keys) q
in_by_test q [] e = cc
in_by_test q (key ∷ keys) e =
    elim (order q key.items) as (λ r. order q key.items ≡ r → (λ (b : Bool). (b || list_any (λ k. is_eq (order q k.items)) keys) ≡ true) (is_eq r) → IsIn (texts_of_keys (key ∷ keys)) q) [
      | Less ↦ λ _ h. inr (in_by_test q keys h)
      | Equal ↦ λ same _. inl (sym (exact_bytes q key.items same))
      | Greater ↦ λ _ h. inr (in_by_test q keys h)
    ] refl e

pub set_of-insert_key : (keys : List (Vec ℕ Global)) (k : Vec ℕ Global) → set_of_keys (insert_key by_items keys k) ≡ with_text (set_of_keys keys) k.items
set_of-insert_key [] k = refl
set_of-insert_key (x ∷ xs) k =
    elim (order k.items x.items) as (λ r. order k.items x.items ≡ r → set_of_keys (match_ordering r (k ∷ x ∷ xs) (x ∷ xs) (x ∷ insert_key by_items xs k)) ≡ with_text (set_of_keys (x ∷ xs)) k.items) [
      | Less ↦ λ _. refl
      | Equal ↦ λ same. sym (set_of-in (texts_of_keys (x ∷ xs)) k.items (inl (sym (exact_bytes k.items x.items same))))
      | Greater ↦ λ _. ap (λ (set : SetOfTexts). with_text set x.items) (set_of-insert_key xs k) ∙ with_text-swap (set_of_keys xs) k.items x.items
    ] refl

all_items : (x : Vec ℕ Global) (keys : List (Vec ℕ Global)) → AllByRecursion (λ y. by_items x y ≡ Less) keys → AllByRecursion (λ t. order x.items t ≡ Less) (texts_of_keys keys)
all_items x [] h = tt
all_items x (y ∷ keys) h = (h.0, all_items x keys h.1)

pub rise-ordered : (keys : List (Vec ℕ Global)) → IsStrictlySortedBy by_items keys → Rise (texts_of_keys keys)
unfolding IsStrictlySortedBy
rise-ordered [] h = tt
rise-ordered (x ∷ keys) h = (all_items x keys h.0, rise-ordered keys h.1)

each-insert_key : (keys : List (Vec ℕ Global)) (k : Vec ℕ Global) → AreBytes k.items × (length k.items < 2 ^ 32) → AllByRecursion (λ t. AreBytes t × (length t < 2 ^ 32)) (texts_of_keys keys) → AllByRecursion (λ t. AreBytes t × (length t < 2 ^ 32)) (texts_of_keys (insert_key by_items keys k))
each-insert_key [] k new all = (new, all)
each-insert_key (x ∷ xs) k new all =
    elim (order k.items x.items) as (λ r. AllByRecursion (λ t. AreBytes t × (length t < 2 ^ 32)) (texts_of_keys (match_ordering r (k ∷ x ∷ xs) (x ∷ xs) (x ∷ insert_key by_items xs k)))) [
      | Less ↦ (new, all)
      | Equal ↦ all
      | Greater ↦ (all.0, each-insert_key xs k new all.1)
    ]

length-insert_key : (keys : List (Vec ℕ Global)) (k : Vec ℕ Global) → length (texts_of_keys (insert_key by_items keys k)) ≤ length keys + 1
length-insert_key [] k = omega arith
length-insert_key (x ∷ xs) k =
    let rest = length-insert_key xs k in
    let same = length-map xs (λ key. key.items) in
    elim (order k.items x.items) as (λ r. length (texts_of_keys (match_ordering r (k ∷ x ∷ xs) (x ∷ xs) (x ∷ insert_key by_items xs k))) ≤ length (x ∷ xs) + 1) [
      | Less ↦ omega arith
      | Equal ↦ omega arith
      | Greater ↦ omega arith
    ]

pub kept-insert_key : (keys after : List (Vec ℕ Global)) (k : Vec ℕ Global) → IsPartial (texts_of_keys keys) → after ≡ insert_key by_items keys k → IsStrictlySortedBy by_items after → AreBytes k.items → length k.items < 2 ^ 32 → length keys + 1 < 2 ^ 32 → IsPartial (texts_of_keys after)
kept-insert_key keys after k kept is ordered small short room = record {
  texts_fit = record {
    few = subst (λ (ks : List (Vec ℕ Global)). length (texts_of_keys ks) < 2 ^ 32) (sym is) (omega (arith, length-insert_key keys k));
    each = subst (λ (ks : List (Vec ℕ Global)). AllByRecursion (λ t. AreBytes t × (length t < 2 ^ 32)) (texts_of_keys ks)) (sym is) (each-insert_key keys k (small, short) kept.texts_fit.each);
  };
  rise = rise-ordered after ordered;
}

pub kept-none : (keys : List (Vec ℕ Global)) → keys ≡ [] → IsPartial (texts_of_keys keys)
unfolding IsStrictlySortedBy
kept-none keys none = subst (λ (ks : List (Vec ℕ Global)). IsPartial (texts_of_keys ks)) (sym none) (record { texts_fit = record { few = omega arith; each = tt }; rise = tt })

-- what a set is seen as has the texts of its keys
pub texts_in-keys : (keys : List (Vec ℕ Global)) → IsPartial (texts_of_keys keys) → texts_in (set_of_keys keys) ≡ texts_of_keys keys
texts_in-keys keys kept = texts_in-set_of (texts_of_keys keys) kept.rise

pub partial-seen : (keys : List (Vec ℕ Global)) (seen : SetOfTexts) → set_of_keys keys ≡ seen → IsPartial (texts_of_keys keys) → IsPartial (texts_in seen)
partial-seen keys seen is kept = subst (λ (set : SetOfTexts). IsPartial (texts_in set)) is (subst IsPartial (sym (texts_in-keys keys kept)) kept)

-- a text that was put in, or there was no memory and nothing was
module _ (keys after : List (Vec ℕ Global)) (k : Vec ℕ Global) (t : List ℕ) where
  pub kept-put : {V E : Type 0} (r : Result V E) → IsPartial (texts_of_keys keys) → OnOk r (after ≡ insert_key by_items keys k) → OnErr r (after ≡ keys) → IsStrictlySortedBy by_items after → k.items ≡ t → AreBytes t → length t < 2 ^ 32 → length keys + 1 < 2 ^ 32 → IsPartial (texts_of_keys after)
  kept-put (Ok v) kept put same ordered is small short room = kept-insert_key keys after k kept put ordered (subst AreBytes (sym is) small) (subst (λ (u : List ℕ). length u < 2 ^ 32) (sym is) short) room
  kept-put (Err e) kept put same ordered is small short room = subst (λ (ks : List (Vec ℕ Global)). IsPartial (texts_of_keys ks)) (sym same) kept

  pub set-put : (old : SetOfTexts) → set_of_keys keys ≡ old → after ≡ insert_key by_items keys k → k.items ≡ t → set_of_keys after ≡ with_text old t
  set-put old seen put is = ap (λ (ks : List (Vec ℕ Global)). set_of_keys ks) put ∙ set_of-insert_key keys k ∙ (λ i. with_text (seen i) (is i))

pub set-held : (keys : List (Vec ℕ Global)) (old : SetOfTexts) (t : List ℕ) → set_of_keys keys ≡ old → list_any (λ key. is_eq (order t key.items)) keys ≡ true → old ≡ with_text old t
set-held keys old t seen held = subst (λ (set : SetOfTexts). set ≡ with_text set t) seen (sym (set_of-in (texts_of_keys keys) t (in_by_test t keys held)))
