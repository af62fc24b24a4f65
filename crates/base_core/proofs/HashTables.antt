-- Hash tables as finite maps, for keys that are seen as byte strings.
use Rattle.std.proofs.Common.{◌≡◌, ℕ, ◌+◌, Bool, true, false, cond, List, [], ◌∷◌, map, length, Option, None, Some, is_some, refl, sym, ap, subst, ◌∙◌, arith}
use Rattle.std.specs.Prelude.{nat_eq}
use Rattle.std.specs.Option.{option_map}
use Rattle.std.specs.Map.{lookup, keys_of, KeepsOthers}
use Rattle.std.specs.List.{AllByRecursion, IsDistinct}
use Rattle.std.specs.Cmp.{eq_by_cmp_equiv}
use Rattle.std.proofs.lemmas.Map.Lookups.{exact_bytes}
use Rattle.std.specs.Cmp.Lexicographic.{pointwise, bytes_decides, texts_ties, nat_list_cmp_total}
use Rattle.std.specs.FinMap.{FinMap, get, find, from_entries, insert, remove, len, contains_key, empty, same_map, get-from_entries, get-insert, get-remove, get-empty, len-empty, len-insert}
use Rattle.base_core.proofs.ByteMaps.{order, is_same}

pub turned : (q d : List ℕ) → is_same q d ≡ pointwise nat_eq d q
turned q d = (eq_by_cmp_equiv nat_list_cmp_total).symm q d ∙ sym (texts_ties d q)

module _ {K V : Type 0} (key : K → List ℕ) where
  -- what the table has under a key
  abbrev pub found : List (K × V) → List ℕ → Option V
  found es q = lookup (λ (k : K). pointwise nat_eq q (key k)) es

  -- no key that is told apart from all is found
  found-apart : (es : List (K × V)) (k : K) → AllByRecursion (λ (y : K). pointwise nat_eq (key k) (key y) ≡ false) (keys_of es) → found es (key k) ≡ None
  found-apart [] k h = refl
  found-apart (e ∷ es) k h = ap (λ b. cond b (Some e.1) (found es (key k))) h.0 ∙ found-apart es k h.1

  -- in a table without repetition each entry is found
  pub each-found : (es : List (K × V)) → IsDistinct (λ (a b : K). pointwise nat_eq (key a) (key b)) (keys_of es) → AllByRecursion (λ (e : K × V). found es (key e.0) ≡ Some e.1) es
  unfolding IsDistinct
  each-found [] h = tt
  each-found (e ∷ es) h = (ap (λ b. cond b (Some e.1) (found es (key e.0))) ((bytes_decides (key e.0) (key e.0)).1 refl), behind es (each-found es h.1) h.0)
    where
      behind : (xs : List (K × V)) → AllByRecursion (λ (x : K × V). found es (key x.0) ≡ Some x.1) xs → AllByRecursion (λ (y : K). pointwise nat_eq (key e.0) (key y) ≡ false) (keys_of xs) → AllByRecursion (λ (x : K × V). found (e ∷ es) (key x.0) ≡ Some x.1) xs
      behind [] all apart = tt
      behind (x ∷ xs) all apart = (ap (λ b. cond b (Some e.1) (found es (key x.0))) (texts_ties (key x.0) (key e.0) ∙ turned (key x.0) (key e.0) ∙ apart.0) ∙ all.0, behind xs all.1 apart.1)

  -- what is found is found under a key of the table
  key_of : (es : List (K × V)) (q : List ℕ) (v : V) → found es q ≡ Some v → (k : K) × (q ≡ key k)
  key_of [] q v e = absurd cc
  key_of (x ∷ es) q v e = by_test (pointwise nat_eq q (key x.0)) refl e (key_of es q v)
    where
      by_test : (b : Bool) → pointwise nat_eq q (key x.0) ≡ b → cond b (Some x.1) (found es q) ≡ Some v → (found es q ≡ Some v → (k : K) × (q ≡ key k)) → (k : K) × (q ≡ key k)
      by_test true same e behind = (x.0, (bytes_decides q (key x.0)).0 same)
      by_test false other e behind = behind e

  -- tables that answer alike at each key answer alike
  pub alike : (es fs : List (K × V)) → ((k : K) → found fs (key k) ≡ found es (key k)) → (q : List ℕ) → found fs q ≡ found es q
  alike es fs same q = by_case (found fs q) (found es q) refl refl
    where
      by_case : (o p : Option V) → found fs q ≡ o → found es q ≡ p → found fs q ≡ found es q
      by_case (Some v) p e f = let k = key_of fs q v e in subst (λ x. found fs x ≡ found es x) (sym k.1) (same k.0)
      by_case None (Some v) e f = let k = key_of es q v f in subst (λ x. found fs x ≡ found es x) (sym k.1) (same k.0)
      by_case None None e f = e ∙ sym f

  -- after a change at one key, the table has there what was put, and elsewhere what it had
  pub updated : (es fs : List (K × V)) (d : List ℕ) (w : Option V) → found fs d ≡ w → KeepsOthers (λ (a b : K). pointwise nat_eq (key a) (key b)) (λ (k : K). pointwise nat_eq d (key k)) es fs
      → (q : List ℕ) → found fs q ≡ cond (pointwise nat_eq d q) w (found es q)
  unfolding KeepsOthers
  updated es fs d w at others q = by_test (pointwise nat_eq d q) refl
    where
      by_test : (b : Bool) → pointwise nat_eq d q ≡ b → found fs q ≡ cond b w (found es q)
      by_test true same = ap (found fs) (sym ((bytes_decides d q).0 same)) ∙ at
      by_test false apart =
          others (λ (k : K). pointwise nat_eq q (key k)) (λ x y same. ap (λ b. pointwise nat_eq b (key y)) ((bytes_decides q (key x)).0 same))
          (λ k at_d. elsewhere (pointwise nat_eq q (key k)) k refl ((bytes_decides d (key k)).0 at_d))
        where
          elsewhere : (b : Bool) (k : K) → pointwise nat_eq q (key k) ≡ b → d ≡ key k → b ≡ false
          elsewhere false k e at = refl
          elsewhere true k e at = sym ((bytes_decides d q).1 (at ∙ sym ((bytes_decides q (key k)).0 e))) ∙ apart

  module _ {X : Type 0} (f : V → X) where
    under_test : (b : Bool) (h : V) (o : Option V) → cond b (Some (f h)) (option_map f o) ≡ option_map f (cond b (Some h) o)
    under_test true h o = refl
    under_test false h o = refl

    none_under_test : (b : Bool) (o : Option V) → option_map f (cond b None o) ≡ cond b None (option_map f o)
    none_under_test true o = refl
    none_under_test false o = refl

    abbrev pub shown : List (K × V) → List (List ℕ × X)
    shown es = map (λ (e : K × V). (key e.0, f e.1)) es

    find-shown : (es : List (K × V)) (q : List ℕ) → find order q (shown es) ≡ option_map f (found es q)
    find-shown [] q = refl
    find-shown (e ∷ es) q = (λ i. cond (sym (texts_ties q (key e.0)) i) (Some (f e.1)) (find-shown es q i)) ∙ under_test (pointwise nat_eq q (key e.0)) e.1 (found es q)

    -- the map that shows f of what is held
    abbrev pub seen : List (K × V) → FinMap order X
    seen es = from_entries {R = order} (shown es)

    pub get-seen : (es : List (K × V)) (q : List ℕ) → get (seen es) q ≡ option_map f (found es q)
    get-seen es q = get-from_entries nat_list_cmp_total _ q ∙ find-shown es q

    -- no entries are seen as the empty map
    pub seen-none : (es : List (K × V)) → es ≡ [] → seen es ≡ empty
    seen-none es e = same_map nat_list_cmp_total exact_bytes _ _ (λ q. get-seen es q ∙ ap (λ xs. option_map f (found xs q)) e ∙ sym (get-empty order q))

    -- tables that answer alike are seen as one map
    pub seen-same : (es fs : List (K × V)) → ((q : List ℕ) → found fs q ≡ found es q) → seen fs ≡ seen es
    seen-same es fs h = same_map nat_list_cmp_total exact_bytes _ _ (λ q. get-seen fs q ∙ ap (option_map f) (h q) ∙ sym (get-seen es q))

    -- what is put under a key is put there in the map
    pub seen-put : (es fs : List (K × V)) (d : List ℕ) (h : V) → ((q : List ℕ) → found fs q ≡ cond (pointwise nat_eq d q) (Some h) (found es q)) → seen fs ≡ insert (seen es) d (f h)
    seen-put es fs d h u = same_map nat_list_cmp_total exact_bytes _ _ (λ q.
        get-seen fs q ∙ ap (option_map f) (u q) ∙ sym (under_test (pointwise nat_eq d q) h (found es q))
        ∙ sym (get-insert nat_list_cmp_total (seen es) d (f h) q ∙ (λ i. cond (turned q d i) (Some (f h)) (get-seen es q i))))

    -- what is taken from a key is taken there from the map
    pub seen-taken : (es fs : List (K × V)) (d : List ℕ) → ((q : List ℕ) → found fs q ≡ cond (pointwise nat_eq d q) None (found es q)) → seen fs ≡ remove (seen es) d
    seen-taken es fs d u = same_map nat_list_cmp_total exact_bytes _ _ (λ q.
        get-seen fs q ∙ ap (option_map f) (u q) ∙ none_under_test (pointwise nat_eq d q) (found es q)
        ∙ sym (get-remove nat_list_cmp_total (seen es) d q ∙ (λ i. cond (turned q d i) None (get-seen es q i))))

    -- a key that is told apart from all is not in the map
    pub apart-seen : (e : K × V) (es : List (K × V)) → IsDistinct (λ (a b : K). pointwise nat_eq (key a) (key b)) (keys_of (e ∷ es)) → get (seen es) (key e.0) ≡ None
    unfolding IsDistinct
    apart-seen e es h = get-seen es (key e.0) ∙ ap (option_map f) (found-apart es e.0 h.0)

    -- how many there are
    pub len-seen : (es : List (K × V)) → IsDistinct (λ (a b : K). pointwise nat_eq (key a) (key b)) (keys_of es) → len (seen es) ≡ length es
    unfolding IsDistinct
    len-seen [] h = len-empty order _
    len-seen (e ∷ es) h =
        let new : contains_key (seen es) (key e.0) ≡ false = ap is_some (apart-seen e es h) in
        len-insert nat_list_cmp_total (seen es) (key e.0) (f e.1) ∙ ap (λ b. cond b (len (seen es)) (len (seen es) + 1)) new ∙ ap (λ n. n + 1) (len-seen es h.1) ∙ omega arith
