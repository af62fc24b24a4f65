-- The marks on the texts of a partial state, and the digests that they stand for.
use Rattle.std.proofs.Common.{◌≡◌, ◌≢◌, ◌+◌, ℕ, zero, suc, Bool, true, false, cond, not, ◌||◌, if◌then◌else◌, List, [], ◌∷◌, map, slice_get, Option, None, Some, inl, inr, refl, sym, ap, ap₂, subst, ◌∙◌}
use Rattle.std.specs.List.{AllByRecursion, position, prefix_len}
use Rattle.std.specs.List.Sorted.{IsStrictlySortedBy}
use Rattle.std.specs.Prelude.{nat_lt, ⊤}
use Rattle.std.specs.Option.{option_map}
use Rattle.std.proofs.lemmas.List.{length-map}
use Rattle.std.specs.Cmp.Lexicographic.{nat_list_cmp_total}
use Rattle.std.specs.FinSet.{contains, insert, same_set, contains-insert, contains-empty}
use Rattle.std.proofs.lemmas.Map.Lookups.{exact_bytes}
use Rattle.indexmap.specs.IndexMap.{set_value_at}
use Rattle.sha2.specs.Sha256.{sha256}
use Rattle.trie_model.specs.Root.{NoClash}
use Rattle.trie_model.proofs.Members.{IsIn, contains_of_in, in-map, all_at, all_of}
use Rattle.trie_model.proofs.Order.{Before}
use Rattle.partial_model.specs.Texts.{Rise}
use Rattle.partial_model.proofs.Clashes.{before_differs}
use Rattle.partial_model.specs.Partial.{IsPartial}
use Rattle.base_core.specs.declared.hash.Digest.{Digest}
use Rattle.base_core.proofs.ByteMaps.{order, is_same, is_same-itself, same_from}
use Rattle.text_store.specs.Store.{Digests}
use Rattle.text_store.specs.declared.marked.Marked.{Marked}
use Rattle.text_store.specs.PartialStates.{texts_held, digests_used, AreHeld}

-- ---- sets of digests

or_twice : (a b : Bool) → (a || (a || b)) ≡ (a || b)
or_twice true b = refl
or_twice false b = refl

or_swap : (a b c : Bool) → (a || (b || c)) ≡ (b || (a || c))
or_swap true true c = refl
or_swap true false c = refl
or_swap false b c = refl

pub insert-again : (set : Digests) (d : List ℕ) → insert (insert set d) d ≡ insert set d
insert-again set d = same_set nat_list_cmp_total exact_bytes _ _ (λ q.
    contains-insert nat_list_cmp_total (insert set d) d q ∙ ap (λ b. is_same q d || b) (contains-insert nat_list_cmp_total set d q) ∙ or_twice (is_same q d) (contains set q) ∙ sym (contains-insert nat_list_cmp_total set d q))

pub insert-swap : (set : Digests) (d e : List ℕ) → insert (insert set d) e ≡ insert (insert set e) d
insert-swap set d e = same_set nat_list_cmp_total exact_bytes _ _ (λ q.
    contains-insert nat_list_cmp_total (insert set d) e q ∙ ap (λ b. is_same q e || b) (contains-insert nat_list_cmp_total set d q) ∙ or_swap (is_same q e) (is_same q d) (contains set q)
    ∙ sym (contains-insert nat_list_cmp_total (insert set e) d q ∙ ap (λ b. is_same q d || b) (contains-insert nat_list_cmp_total set e q)))

-- ---- a mark is set

pub texts-marked : (es : List (Digest × Marked)) (i : ℕ) (k : Digest) (m : Marked) → slice_get es i ≡ Some (k, m) → texts_held (set_value_at es i (record m { used = true })) ≡ texts_held es
texts-marked [] i k m e = refl
texts-marked (x ∷ es) zero k m e = ap (λ (t : List ℕ). t ∷ texts_held es) (ap (λ (y : Digest × Marked). y.1.text) (sym (the_one x (k, m) e)))
  where
    the_one : (y z : Digest × Marked) → Some y ≡ Some z → y ≡ z
    the_one y z e = cc e
texts-marked (x ∷ es) (suc i) k m e = ap (λ (ts : List (List ℕ)). x.1.text ∷ ts) (texts-marked es i k m e)

pub used-marked : (es : List (Digest × Marked)) (i : ℕ) (k : Digest) (m : Marked) → slice_get es i ≡ Some (k, m) → digests_used (set_value_at es i (record m { used = true })) ≡ insert (digests_used es) k.0
used-marked [] i k m e = cc
used-marked (x ∷ es) zero k m e = go x.1.used ∙ ap (λ (y : Digest × Marked). insert (digests_used (x ∷ es)) y.0.0) (the_one x (k, m) e)
  where
    the_one : (y z : Digest × Marked) → Some y ≡ Some z → y ≡ z
    the_one y z e = cc e

    go : (b : Bool) → insert (digests_used es) x.0.0 ≡ insert (if b then insert (digests_used es) x.0.0 else digests_used es) x.0.0
    go true = sym (insert-again (digests_used es) x.0.0)
    go false = refl
used-marked (x ∷ es) (suc i) k m e = go x.1.used (used-marked es i k m e)
  where
    go : (b : Bool) → digests_used (set_value_at es i (record m { used = true })) ≡ insert (digests_used es) k.0
        → (if b then insert (digests_used (set_value_at es i (record m { used = true }))) x.0.0 else digests_used (set_value_at es i (record m { used = true }))) ≡ insert (if b then insert (digests_used es) x.0.0 else digests_used es) k.0
    go true h = ap (λ (set : Digests). insert set x.0.0) h ∙ insert-swap (digests_used es) k.0 x.0.0
    go false h = h

named-marked : (es : List (Digest × Marked)) (i : ℕ) (k : Digest) (m : Marked) → slice_get es i ≡ Some (k, m) → AllByRecursion (λ e. e.0.0 ≡ sha256 e.1.text) es → AllByRecursion (λ e. e.0.0 ≡ sha256 e.1.text) (set_value_at es i (record m { used = true }))
named-marked [] i k m e h = tt
named-marked (x ∷ es) zero k m e h = (h.0 ∙ ap (λ (y : Digest × Marked). sha256 y.1.text) (the_one x (k, m) e), h.1)
  where
    the_one : (y z : Digest × Marked) → Some y ≡ Some z → y ≡ z
    the_one y z e = cc e
named-marked (x ∷ es) (suc i) k m e h = (h.0, named-marked es i k m e h.1)

pub held-marked : (es : List (Digest × Marked)) (i : ℕ) (k : Digest) (m : Marked) → slice_get es i ≡ Some (k, m) → AreHeld es → AreHeld (set_value_at es i (record m { used = true }))
held-marked es i k m e h =
    let same = sym (texts-marked es i k m e) in
    record { named = named-marked es i k m e h.named; partial = subst IsPartial same h.partial; apart = subst NoClash same h.apart }

-- ---- the least place without a mark

-- the digests of texts that are all different tell the marks
pub contains-used : (es : List (Digest × Marked)) (q : List ℕ) → ((e : Digest × Marked) → IsIn es e → e.0.0 ≢ q) → contains (digests_used es) q ≡ false
contains-used [] q none = contains-empty order q
contains-used (e ∷ es) q none = go e.1.used (contains-used es q (λ f h. none f (inr h)))
  where
    other : is_same q e.0.0 ≡ false
    other = by_test (is_same q e.0.0) refl
      where
        by_test : (b : Bool) → is_same q e.0.0 ≡ b → b ≡ false
        by_test true s = absurd (none e (inl refl) (sym (same_from q e.0.0 s)))
        by_test false s = refl

    go : (b : Bool) → contains (digests_used es) q ≡ false → contains (if b then insert (digests_used es) e.0.0 else digests_used es) q ≡ false
    go true h = contains-insert nat_list_cmp_total (digests_used es) e.0.0 q ∙ ap₂ (λ a b. a || b) other h
    go false h = h

-- no two entries have one digest
AreApart : List (Digest × Marked) → Type 0
AreApart [] = ⊤
AreApart (e ∷ es) = ((f : Digest × Marked) → IsIn es f → f.0.0 ≢ e.0.0) × AreApart es

in_texts : (es : List (Digest × Marked)) (f : Digest × Marked) → IsIn es f → IsIn (texts_held es) f.1.text
in_texts es f h = in-map (λ e. e.1.text) es f h

named_at : (es : List (Digest × Marked)) (f : Digest × Marked) → AllByRecursion (λ e. e.0.0 ≡ sha256 e.1.text) es → IsIn es f → f.0.0 ≡ sha256 f.1.text
named_at es f named h = all_at (λ e. e.0.0 ≡ sha256 e.1.text) es f named h

apart_from : (all : List (List ℕ)) → NoClash all → (es : List (Digest × Marked)) → AllByRecursion (λ e. e.0.0 ≡ sha256 e.1.text) es → Rise (texts_held es) → ((t : List ℕ) → IsIn (texts_held es) t → IsIn all t) → AreApart es
unfolding AreApart IsStrictlySortedBy
apart_from all clash [] named rise within = tt
apart_from all clash (e ∷ es) named rise within = (
  λ f h same.
      let later = in_texts es f h in
      let alike : sha256 e.1.text ≡ sha256 f.1.text = sym named.0 ∙ sym same ∙ named_at es f named.1 h in
      before_differs e.1.text f.1.text (all_at (λ t. Before e.1.text t) (texts_held es) f.1.text rise.0 later)
      (clash.apart e.1.text f.1.text (contains_of_in all e.1.text (within e.1.text (inl refl))) (contains_of_in all f.1.text (within f.1.text (inr later))) alike),
  apart_from all clash es named.1 rise.1 (λ t h. within t (inr h)),
)

apart_held : (es : List (Digest × Marked)) → AreHeld es → AreApart es
apart_held es h = apart_from (texts_held es) h.apart es h.named h.partial.rise (λ t k. k)

-- whether a text is marked is told by the digests
used-told : (es : List (Digest × Marked)) → AreApart es → AllByRecursion (λ e. e.1.used ≡ contains (digests_used es) e.0.0) es
unfolding AreApart
used-told [] apart = tt
used-told (e ∷ es) apart = (here e.1.used, all_of (λ f. f.1.used ≡ contains (digests_used (e ∷ es)) f.0.0) es (λ f h. later f h (all_at (λ g. g.1.used ≡ contains (digests_used es) g.0.0) es f (used-told es apart.1) h)))
  where
    none : contains (digests_used es) e.0.0 ≡ false
    none = contains-used es e.0.0 apart.0

    here : (b : Bool) → b ≡ contains (if b then insert (digests_used es) e.0.0 else digests_used es) e.0.0
    here true = sym (contains-insert nat_list_cmp_total (digests_used es) e.0.0 e.0.0 ∙ ap (λ b. b || contains (digests_used es) e.0.0) (is_same-itself e.0.0))
    here false = sym none

    later : (f : Digest × Marked) → IsIn es f → f.1.used ≡ contains (digests_used es) f.0.0 → f.1.used ≡ contains (digests_used (e ∷ es)) f.0.0
    later f h is = is ∙ by_mark e.1.used
      where
        other : (b : Bool) → is_same f.0.0 e.0.0 ≡ b → b ≡ false
        other true s = absurd (apart.0 f h (same_from f.0.0 e.0.0 s))
        other false s = refl

        by_mark : (b : Bool) → contains (digests_used es) f.0.0 ≡ contains (if b then insert (digests_used es) e.0.0 else digests_used es) f.0.0
        by_mark true = sym (contains-insert nat_list_cmp_total (digests_used es) e.0.0 f.0.0 ∙ ap (λ b. b || contains (digests_used es) f.0.0) (other (is_same f.0.0 e.0.0) refl))
        by_mark false = refl

-- two tests that agree along a list are first passed at one place
prefix-same : {E X Y : Type 0} (f : E → X) (g : E → Y) (p : X → Bool) (q : Y → Bool) (es : List E) → AllByRecursion (λ e. p (f e) ≡ q (g e)) es → prefix_len p (map f es) ≡ prefix_len q (map g es)
prefix-same f g p q [] h = refl
prefix-same f g p q (e ∷ es) h = ap₂ (λ b n. if b then 1 + n else 0) h.0 (prefix-same f g p q es h.1)

pub first_unused-is : (es : List (Digest × Marked)) → AreHeld es → position (λ m. not m.used) (map (λ e. e.1) es) ≡ position (λ t. not (contains (digests_used es) (sha256 t))) (texts_held es)
first_unused-is es h =
    let agree : AllByRecursion (λ e. not (not e.1.used) ≡ not (not (contains (digests_used es) (sha256 e.1.text)))) es =
    all_of (λ e. not (not e.1.used) ≡ not (not (contains (digests_used es) (sha256 e.1.text)))) es
    (λ e k. ap (λ b. not (not b)) (all_at (λ g. g.1.used ≡ contains (digests_used es) g.0.0) es e (used-told es (apart_held es h)) k ∙ ap (λ (d : List ℕ). contains (digests_used es) d) (named_at es e h.named k))) in
    let first : prefix_len (λ m. not (not m.used)) (map (λ e. e.1) es) ≡ prefix_len (λ t. not (not (contains (digests_used es) (sha256 t)))) (texts_held es) =
    prefix-same (λ e. e.1) (λ e. e.1.text) (λ m. not (not m.used)) (λ t. not (not (contains (digests_used es) (sha256 t)))) es agree in
    ap₂ (λ n k. cond (nat_lt n k) (Some n) None) first (length-map es (λ e. e.1) ∙ sym (length-map es (λ e. e.1.text)))

-- the text at a place
pub text-at : (es : List (Digest × Marked)) (i : ℕ) (m : Marked) → slice_get (map (λ e. e.1) es) i ≡ Some m → slice_get (texts_held es) i ≡ Some m.text
text-at [] i m e = cc
text-at (x ∷ es) zero m e = ap (λ (o : Option Marked). option_map (λ n. n.text) o) e
text-at (x ∷ es) (suc i) m e = text-at es i m e
