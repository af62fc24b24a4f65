-- Texts put into a table one after the other, with the least digest that is taken.
use Rattle.std.proofs.Common.{◌≡◌, ℕ, ◌+◌, ◌<◌, ◌≤◌, ◌^◌, ◌||◌, nat_eq, if◌then◌else◌, List, [], ◌∷◌, ◌++◌, map, length, take, drop, get_or, Bor, Option, None, Some, MatchOption, Ok, Err, refl, sym, ap, subst, ◌∙◌}
use Rattle.std.proofs.lemmas.List.{drop_more, take_more, take_all, map-append}
use Rattle.std.proofs.Math.ListN.{get_or-map, drop_of_length-le}
use Rattle.std.specs.Option.{option_map}
use Rattle.std.specs.List.{AllByRecursion, list_any}
use Rattle.std.specs.Cmp.Lexicographic.{pointwise}
use Rattle.sha2.specs.Sha256.{sha256}
use Rattle.byte_model.specs.Nibbles.{AreBytes}
use Rattle.byte_model.proofs.Lists.{AllByRecursion-append}
use Rattle.trie_model.specs.Root.{NoClash, zero_digest}
use Rattle.partial_model.specs.Texts.{Rise, is_taken, lesser, least_taken, least_clash, first_fall, FallsAt}
use Rattle.partial_model.specs.Partial.{IsPartial, tested, clash}
use Rattle.partial_model.proofs.Falls.{falls_found}
use Rattle.partial_model.proofs.Clashes.{lesser-then, lesser-none, NoClash-of_none}
use Rattle.base_core.specs.declared.hash.Digest.{Digest}
use Rattle.text_store.specs.declared.marked.Marked.{Marked}
use Rattle.text_store.specs.PartialStates.{AreHeld, digest_taken, digests_used, fresh_entry, has_digest, texts_held, unread}

abbrev pub name_of : Option Digest → Option (List ℕ)
name_of o = option_map (λ d. d.0) o

-- the table after some of the texts, and the least digest that was taken
pub record Gathers (texts : List (List ℕ)) (i : ℕ) (es : List (Digest × Marked)) (least : Option Digest) : Type 0 where
  pub earlier : List (List ℕ)
  pub has : (q : List ℕ) → has_digest es q ≡ list_any (λ u. pointwise nat_eq (sha256 u) q) earlier
  pub found : lesser (name_of least) (least_taken sha256 earlier (drop i texts)) ≡ least_clash sha256 texts
  pub whole : least ≡ None → es ≡ map fresh_entry (take i texts)
  pub small : AllByRecursion AreBytes (take i texts)

pub Gathers-init : (texts : List (List ℕ)) (es : List (Digest × Marked)) → es ≡ [] → Gathers texts 0 es None
unfolding lesser
Gathers-init texts es none = record {
  earlier = [];
  has = λ q. ap (λ (fs : List (Digest × Marked)). has_digest fs q) none;
  found = refl;
  whole = λ _. none;
  small = tt;
}

-- ---- one more text

module _ (texts : List (List ℕ)) (i : ℕ) (t : List ℕ) (es fs : List (Digest × Marked)) (least next : Option Digest) (within : i < length texts) (here : get_or texts i [] ≡ t) (small : AreBytes t)
    (has : (q : List ℕ) → has_digest fs q ≡ (pointwise nat_eq (sha256 t) q || has_digest es q)) (lower : name_of next ≡ lesser (name_of least) (digest_taken es (sha256 t)))
    (last : next ≡ None → (fs ≡ es ++ fresh_entry t ∷ []) × (least ≡ None)) (h : Gathers texts i es least) where
  dropped : drop i texts ≡ t ∷ drop (i + 1) texts
  dropped = drop_more texts i [] within ∙ ap (λ (u : List ℕ). u ∷ drop (i + 1) texts) here

  taken : take (i + 1) texts ≡ take i texts ++ t ∷ []
  taken = take_more texts i [] within ∙ ap (λ (u : List ℕ). take i texts ++ u ∷ []) here

  told : digest_taken es (sha256 t) ≡ (if is_taken sha256 h.earlier t then Some (sha256 t) else None)
  told = ap (λ b. if pointwise nat_eq (sha256 t) zero_digest || b then Some (sha256 t) else None) (h.has (sha256 t))

  found : lesser (name_of next) (least_taken sha256 (t ∷ h.earlier) (drop (i + 1) texts)) ≡ least_clash sha256 texts
  unfolding least_taken
  found =
      ap (λ (o : Option (List ℕ)). lesser o (least_taken sha256 (t ∷ h.earlier) (drop (i + 1) texts))) (lower ∙ ap (lesser (name_of least)) told)
      ∙ lesser-then (name_of least) (if is_taken sha256 h.earlier t then Some (sha256 t) else None) (least_taken sha256 (t ∷ h.earlier) (drop (i + 1) texts))
      ∙ ap (λ (ts : List (List ℕ)). lesser (name_of least) (least_taken sha256 h.earlier ts)) (sym dropped) ∙ h.found

  pub Gathers-more : Gathers texts (i + 1) fs next
  Gathers-more = record {
    earlier = t ∷ h.earlier;
    has = λ q. has q ∙ ap (λ b. pointwise nat_eq (sha256 t) q || b) (h.has q);
    found = found;
    whole = λ none. (last none).0 ∙ ap (λ (gs : List (Digest × Marked)). gs ++ fresh_entry t ∷ []) (h.whole (last none).1) ∙ sym (ap (map fresh_entry) taken ∙ map-append fresh_entry (take i texts) (t ∷ []));
    small = subst (AllByRecursion AreBytes) (sym taken) (AllByRecursion-append AreBytes (take i texts) (t ∷ []) h.small (small, tt));
  }

-- ---- all of them

pub texts-fresh : (ts : List (List ℕ)) → texts_held (map fresh_entry ts) ≡ ts
texts-fresh [] = refl
texts-fresh (t ∷ ts) = ap (λ (us : List (List ℕ)). t ∷ us) (texts-fresh ts)

pub used-fresh : (ts : List (List ℕ)) → digests_used (map fresh_entry ts) ≡ digests_used []
used-fresh [] = refl
used-fresh (t ∷ ts) = used-fresh ts

named-fresh : (ts : List (List ℕ)) → AllByRecursion (λ e. e.0.0 ≡ sha256 e.1.text) (map fresh_entry ts)
named-fresh [] = tt
named-fresh (t ∷ ts) = (refl, named-fresh ts)

pub held-fresh : (es : List (Digest × Marked)) (ts : List (List ℕ)) → es ≡ map fresh_entry ts → IsPartial ts → NoClash ts → AreHeld es
held-fresh es ts is partial apart = subst AreHeld (sym is) (record {
  named = named-fresh ts;
  partial = subst IsPartial (sym (texts-fresh ts)) partial;
  apart = subst NoClash (sym (texts-fresh ts)) apart;
})

pub unread-fresh : (es : List (Digest × Marked)) (ts : List (List ℕ)) → es ≡ map fresh_entry ts → record { texts = texts_held es; kept = digests_used es; loads = 0 } ≡ unread ts
unread-fresh es ts is =
    let whole : texts_held es ≡ ts = ap (λ (fs : List (Digest × Marked)). texts_held fs) is ∙ texts-fresh ts in
    let none : digests_used es ≡ digests_used [] = ap (λ (fs : List (Digest × Marked)). digests_used fs) is ∙ used-fresh ts in
    λ j. record { texts = whole j; kept = none j; loads = 0 }

pub element : (texts : List (Bor (List ℕ))) (i : ℕ) (d : Bor (List ℕ)) (t : List ℕ) → d.now ≡ [] → t ≡ (get_or texts i d).now → get_or (map (λ u. u.now) texts) i [] ≡ t
element texts i d t none is = ap (λ (e : List ℕ). get_or (map (λ u. u.now) texts) i e) (sym none) ∙ get_or-map (λ (u : Bor (List ℕ)). u.now) texts i d ∙ sym is

pub short-bytes : (texts : List (Bor (List ℕ))) → AllByRecursion (λ text. length text.now < 2 ^ 32) texts → AllByRecursion AreBytes (map (λ u. u.now) texts) → AllByRecursion (λ t. AreBytes t × (length t < 2 ^ 32)) (map (λ u. u.now) texts)
short-bytes [] h k = tt
short-bytes (text ∷ texts) h k = ((k.0, h.0), short-bytes texts h.1 k.1)

module _ (texts : List (List ℕ)) (i : ℕ) (es : List (Digest × Marked)) (least : Option Digest) (ended : length texts ≤ i) (h : Gathers texts i es least) where
  all : take i texts ≡ texts
  all = take_all i texts ended

  clash_is : name_of least ≡ least_clash sha256 texts
  unfolding least_taken
  clash_is = sym (lesser-none (name_of least)) ∙ ap (λ (ts : List (List ℕ)). lesser (name_of least) (least_taken sha256 h.earlier ts)) (sym (drop_of_length-le texts {i = i} ended)) ∙ h.found

  pub gathered-clash : (digest : Digest) → least ≡ Some digest → None ≡ first_fall texts → tested texts ≡ Err (clash digest.0)
  gathered-clash digest is none = rw (sym none, sym clash_is, is) refl

  pub gathered-all : least ≡ None → None ≡ first_fall texts → tested texts ≡ Ok texts
  gathered-all is none = rw (sym none, sym clash_is, is) refl

  pub gathered-entries : least ≡ None → es ≡ map fresh_entry texts
  gathered-entries is = h.whole is ∙ ap (map fresh_entry) all

  pub gathered-held : least ≡ None → None ≡ first_fall texts → length texts < 2 ^ 32 → (AllByRecursion AreBytes texts → AllByRecursion (λ t. AreBytes t × (length t < 2 ^ 32)) texts) → AreHeld es
  gathered-held is none few short =
      let rise : Rise texts = rises (first_fall texts) (sym none) (falls_found texts) in
      held-fresh es texts (gathered-entries is)
      (record { texts_fit = record { few = few; each = short (subst (AllByRecursion AreBytes) all h.small) }; rise = rise })
      (NoClash-of_none texts rise (sym clash_is ∙ ap name_of is))
    where
      rises : (fall : Option ℕ) → fall ≡ None → MatchOption fall (Rise texts) (FallsAt texts) → Rise texts
      rises None e k = k
      rises (Some place) e k = cc

pub some_is_none : (digest : Digest) → Some digest ≡ None → ⊥
some_is_none digest e = cc
