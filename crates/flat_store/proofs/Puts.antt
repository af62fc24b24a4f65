-- The pairs that a map has with changes laid over: those of unchanged keys, and what changed keys become.
use Rattle.std.proofs.Common.{◌≡◌, ℕ, ◌≤◌, ◌<◌, Bool, true, false, cond, List, ◌∷◌, length, Option, None, Some, is_some, not, IsSome, Vec, Result, Ok, Err, refl, sym, ap, subst, ◌∙◌, arith}
use Rattle.std.specs.Result.{IsErrAnd}
use Rattle.std.specs.List.{AllByRecursion, IsDistinct}
use Rattle.std.specs.Map.{keys_of}
use Rattle.std.specs.Cmp.Lexicographic.{nat_list_cmp_total}
use Rattle.std.proofs.lemmas.Map.Lookups.{exact_bytes}
use Rattle.std.specs.FinMap.{empty, entries, get, insert, get-empty, get-retain_keys, same_map}
use Rattle.std.specs.declared.alloc.Global.{Global}
use Rattle.trie_model.specs.State.{State, IsPair}
use Rattle.batch_model.specs.Changes.{IsChange, after, decided}
use Rattle.batch_model.proofs.Laying.{get-after, get_of_all, same_key}
use Rattle.base_core.proofs.ByteMaps.{order}
use Rattle.base_core.proofs.HashTables.{each-found}
use Rattle.flat_store.specs.Kept.{ByKey, changes_of, head_of, held, unchanged}
use Rattle.flat_store.proofs.Tables.{get-map, same_items}
use Rattle.flat_store.proofs.Filling.{IsFilled, filled-full, filled-put, filled-skip, fewer-within, found-not}

abbrev Value : Type 0
Value = Option (List ℕ)

-- each entry that is left is one of the table
abbrev pub AreOf : {X : Type 0} → ByKey X → ByKey X → Type 0
AreOf es rest = AllByRecursion (λ e. held es e.0.items ≡ Some e.1) rest

pub all-of : {X : Type 0} (es rest : ByKey X) → rest ≡ es → IsDistinct same_items (keys_of es) → AreOf es rest
all-of es rest same apart = subst (AreOf es) (sym same) (each-found (λ (k : Vec ℕ Global). k.items) es apart)

-- ---- changed keys

module _ (state : State) (newest : ByKey Value) where
  get-changed : (q : List ℕ) → get (after state (changes_of newest)) q ≡ decided (held newest q) (get state q)
  get-changed q = get-after state (changes_of newest) q ∙ ap (λ (o : Option Value). decided o (get state q)) (get-map newest q)

  changed-at : (q : List ℕ) (v : Value) → held newest q ≡ Some v → get (after state (changes_of newest)) q ≡ v
  changed-at q v at = get-changed q ∙ ap (λ (o : Option Value). decided o (get state q)) at

  unchanged-at : (q : List ℕ) → held newest q ≡ None → get (after state (changes_of newest)) q ≡ get state q
  unchanged-at q none = get-changed q ∙ ap (λ (o : Option Value). decided o (get state q)) none

  pub changed-start : (rest : ByKey Value) → rest ≡ newest → ((q : List ℕ) → IsSome (held newest q) → get state q ≡ None) → IsFilled (after state (changes_of newest)) state rest
  changed-start rest same new = record {
    within = λ q v found. by_case q v (held newest q) refl found;
    done = λ q none. sym (unchanged-at q (ap (λ es. held es q) (sym same) ∙ none));
  }
    where
      by_case : (q v : List ℕ) (o : Option Value) → held newest q ≡ o → get state q ≡ Some v → get (after state (changes_of newest)) q ≡ Some v
      by_case q v None none found = unchanged-at q none ∙ found
      by_case q v (Some w) some found = absurd (found-not _ v (new q (ap is_some some)) found)

  module _ (part : State) (key : Vec ℕ Global) (what : Value) (left rest : ByKey Value) (steps : left ≡ (key, what) ∷ rest) (is : IsFilled (after state (changes_of newest)) part left) (all : AreOf newest left) where
    now : IsFilled (after state (changes_of newest)) part ((key, what) ∷ rest)
    now = subst (λ es. IsFilled (after state (changes_of newest)) part es) steps is

    here : AreOf newest ((key, what) ∷ rest)
    here = subst (AreOf newest) steps all

    pub changed-rest : AreOf newest rest
    changed-rest = here.1

    pub changed-put : (v k : List ℕ) (next : State) → what ≡ Some v → k ≡ key.items → next ≡ insert part k v → IsFilled (after state (changes_of newest)) next rest
    changed-put v k next is_v same put = filled-put _ part (key, what) rest now next v (changed-at key.items what here.0 ∙ is_v) (put ∙ ap (λ q. insert part q v) same)

    pub changed-skip : what ≡ None → IsFilled (after state (changes_of newest)) part rest
    changed-skip none = filled-skip _ part (key, what) rest now (changed-at key.items what here.0 ∙ none)

    pub changed-full : (v k : List ℕ) (most : ℕ) → what ≡ Some v → k ≡ key.items → get part k ≡ None → most ≤ length (entries part) → most < length (entries (after state (changes_of newest)))
    changed-full v k most is_v same new full = filled-full _ part (key, what) rest now v most (changed-at key.items what here.0 ∙ is_v) (ap (get part) (sym same) ∙ new) full

    pub changed-pair : (v k : List ℕ) → what ≡ Some v → k ≡ key.items → AllByRecursion IsChange (entries (changes_of newest)) → IsPair (k, v)
    changed-pair v k is_v same within =
        let change : IsChange (key.items, Some v) = get_of_all IsChange (changes_of newest) within key.items (Some v) (get-map newest key.items ∙ here.0 ∙ ap Some is_v) in
        subst (λ q. IsPair (q, v)) (sym same) (record { key = change.key; key_length = change.key_length; value = change.value; value_length = change.value_length })

-- ---- unchanged keys

module _ (head : ByKey (List ℕ)) (newest : ByKey Value) where
  get-unchanged : (q : List ℕ) → get (unchanged head newest) q ≡ cond (not (is_some (held newest q))) (held head q) None
  get-unchanged q =
      get-retain_keys (head_of head) (λ k. not (is_some (held newest k))) q (λ x same. ap (λ k. not (is_some (held newest k))) (sym (same_key q x same)))
      ∙ ap (λ (o : Option (List ℕ)). cond (not (is_some (held newest q))) o None) (get-map head q)

  pub unchanged-start : (part : State) (rest : ByKey (List ℕ)) → part ≡ empty → rest ≡ head → IsFilled (unchanged head newest) part rest
  unchanged-start part rest none same = record {
    within = λ q v found. absurd (found-not _ v (ap (λ (m : State). get m q) none ∙ get-empty order q) found);
    done = λ q missing. ap (λ (m : State). get m q) none ∙ get-empty order q ∙ sym (get-unchanged q ∙ ap (λ (o : Option (List ℕ)). cond (not (is_some (held newest q))) o None) (ap (λ es. held es q) (sym same) ∙ missing) ∙ either (not (is_some (held newest q))));
  }
    where
      either : (b : Bool) → cond {A = Option (List ℕ)} b None None ≡ None
      either true = refl
      either false = refl

  module _ (part : State) (key : Vec ℕ Global) (value : List ℕ) (left rest : ByKey (List ℕ)) (steps : left ≡ (key, value) ∷ rest) (is : IsFilled (unchanged head newest) part left) (all : AreOf head left) where
    at_first : IsFilled (unchanged head newest) part ((key, value) ∷ rest)
    at_first = subst (λ es. IsFilled (unchanged head newest) part es) steps is

    of_head : AreOf head ((key, value) ∷ rest)
    of_head = subst (AreOf head) steps all

    pub unchanged-rest : AreOf head rest
    unchanged-rest = of_head.1

    stays : (b : Bool) → b ≡ false → b ≡ is_some (held newest key.items) → get (unchanged head newest) key.items ≡ Some value
    stays b none is_b = get-unchanged key.items ∙ ap (λ t. cond (not t) (held head key.items) None) (sym is_b ∙ none) ∙ of_head.0

    pub unchanged-put : (v k : List ℕ) (next : State) (b : Bool) → b ≡ false → b ≡ is_some (held newest key.items) → v ≡ value → k ≡ key.items → next ≡ insert part k v → IsFilled (unchanged head newest) next rest
    unchanged-put v k next b none is_b value_is same put = filled-put _ part (key, value) rest at_first next value (stays b none is_b) (put ∙ ap (λ q. insert part q v) same ∙ ap (insert part key.items) value_is)

    pub unchanged-skip : (b : Bool) → b ≡ true → b ≡ is_some (held newest key.items) → IsFilled (unchanged head newest) part rest
    unchanged-skip b some is_b = filled-skip _ part (key, value) rest at_first (get-unchanged key.items ∙ ap (λ t. cond (not t) (held head key.items) None) (sym is_b ∙ some))

    pub unchanged-full : (k : List ℕ) (most : ℕ) (b : Bool) → b ≡ false → b ≡ is_some (held newest key.items) → k ≡ key.items → get part k ≡ None → most ≤ length (entries part) → most < length (entries (unchanged head newest))
    unchanged-full k most b none is_b same new full = filled-full _ part (key, value) rest at_first value most (stays b none is_b) (ap (get part) (sym same) ∙ new) full

    pub unchanged-pair : (v k : List ℕ) → v ≡ value → k ≡ key.items → AllByRecursion IsPair (entries (head_of head)) → IsPair (k, v)
    unchanged-pair v k value_is same within =
        let pair : IsPair (key.items, value) = get_of_all IsPair (head_of head) within key.items value (get-map head key.items ∙ of_head.0) in
        subst (λ q. IsPair (q, v)) (sym same) (subst (λ w. IsPair (key.items, w)) (sym value_is) pair)

  -- none of the keys that are changed is among them
  pub unchanged-new : (q : List ℕ) → IsSome (held newest q) → get (unchanged head newest) q ≡ None
  unchanged-new q some = get-unchanged q ∙ ap (λ t. cond (not t) (held head q) None) some

  -- with the changes laid over, it is the head's map with the changes laid over
  pub unchanged-after : after (unchanged head newest) (changes_of newest) ≡ after (head_of head) (changes_of newest)
  unchanged-after = same_map nat_list_cmp_total exact_bytes _ _ (λ q. get-changed (unchanged head newest) newest q ∙ by_case q (held newest q) refl ∙ sym (get-changed (head_of head) newest q))
    where
      by_case : (q : List ℕ) (o : Option Value) → held newest q ≡ o → decided (held newest q) (get (unchanged head newest) q) ≡ decided (held newest q) (get (head_of head) q)
      by_case q None none =
          ap (λ (o : Option Value). decided o (get (unchanged head newest) q)) none ∙ get-unchanged q ∙ ap (λ (o : Option Value). cond (not (is_some o)) (held head q) None) none ∙ sym (get-map head q)
          ∙ sym (ap (λ (o : Option Value). decided o (get (head_of head) q)) none)
      by_case q (Some v) some = ap (λ (o : Option Value). decided o (get (unchanged head newest) q)) some ∙ sym (ap (λ (o : Option Value). decided o (get (head_of head) q)) some)

  pub unchanged-fewer : (most : ℕ) → most < length (entries (unchanged head newest)) → most < length (entries (after (head_of head) (changes_of newest)))
  unchanged-fewer most more =
      let part : length (entries (unchanged head newest)) ≤ length (entries (after (unchanged head newest) (changes_of newest))) = fewer-within _ _ (changed-start (unchanged head newest) newest newest refl unchanged-new).within in
      let whole : length (entries (after (unchanged head newest) (changes_of newest))) ≡ length (entries (after (head_of head) (changes_of newest))) = ap (λ (s : State). length (entries s)) unchanged-after in
      omega (arith, more, part, whole)

-- ---- what a refusal says that a `?` passed on

abbrev pub as_error : {X E : Type 0} → E → Result X E
as_error error = Err error

pub passed_on : {X Y E : Type 0} (result : Result X E) (error other : E) → IsErrAnd result (λ given. given ≡ error) → result ≡ Err other → as_error {X = Y} error ≡ Err other
passed_on (Ok x) error other is same = absurd is
passed_on (Err given) error other is same = let there : given ≡ other = cc in ap Err (sym is ∙ there)
