-- The least digest that two texts share, and that there is none exactly where no texts clash.
use Rattle.std.proofs.Common.{◌≡◌, ◌≢◌, ℕ, Bool, true, false, if◌then◌else◌, nat_eq, List, [], ◌∷◌, Option, None, Some, MatchOption, Contains, ◌⊎◌, inl, inr, refl, sym, ◌∙◌, ap, subst}
use Rattle.std.specs.List.{list_any}
use Rattle.std.specs.List.Sorted.{IsStrictlySortedBy}
use Rattle.std.specs.declared.cmp.Ordering.{Ordering}
use Rattle.std.specs.declared.cmp.Ordering.TheVariants.{Less, Equal, Greater}
use Rattle.std.specs.Ordering.{is_lt, is_gt, ordering_reverse, nat_cmp}
use Rattle.std.specs.Cmp.{upto}
use Rattle.std.specs.Cmp.Lexicographic.{slice_cmp, pointwise, bytes_decides, nat_list_cmp_total}
use Rattle.sha2.specs.Sha256.{sha256}
use Rattle.std.proofs.lemmas.Bool.{or_cases, or_left, or_right}
use Rattle.trie_model.specs.Root.{NoClash, zero_digest}
use Rattle.trie_model.proofs.Members.{IsIn, contains_of_in, in_of_contains, all_at}
use Rattle.trie_model.proofs.Order.{Before}
use Rattle.trie_model.proofs.Growth.{NotAfter, slice_cmp-itself, not_after_before, not_after_itself}
use Rattle.partial_model.specs.Texts.{Rise, is_taken, lesser, least_taken, least_clash, IsClash, is_zero, is_shared, IsLeastClash}
use Rattle.partial_model.proofs.Falls.{less_from, not_less_from}

-- ---- the order of digests

not_greater : (o : Ordering) → o ≢ Greater → is_gt o ≡ false
not_greater Less h = refl
not_greater Equal h = refl
not_greater Greater h = absurd (h refl)

pub not_after_then : (p q r : List ℕ) → NotAfter p q → NotAfter q r → NotAfter p r
not_after_then p q r h k e = different (sym (upto nat_list_cmp_total p q r (not_greater _ h) (not_greater _ k)) ∙ ap is_gt e)
  where
    different : false ≡ true → ⊥
    different e = cc

turned : (o : Ordering) → o ≢ Less → ordering_reverse o ≢ Greater
turned Less h = λ e. h refl
turned Equal h = λ e. cc
turned Greater h = λ e. cc

not_before : (p q : List ℕ) → slice_cmp nat_cmp p q ≢ Less → NotAfter q p
not_before p q h e = turned (slice_cmp nat_cmp p q) h (sym (nat_list_cmp_total.antisymm q p) ∙ e)

-- texts of which one is before the other differ
pub before_differs : (p q : List ℕ) → Before p q → p ≢ q
before_differs p q h e = different (sym (slice_cmp-itself p) ∙ subst (λ (t : List ℕ). slice_cmp nat_cmp p t ≡ Less) (sym e) h)
  where
    different : Equal ≡ Less → ⊥
    different e = cc

-- ---- the least digest that is taken

-- one of these texts has this digest, and it is taken when the text comes
Taken : (List ℕ → List ℕ) → List (List ℕ) → List (List ℕ) → List ℕ → Type 0
Taken name earlier [] digest = ⊥
Taken name earlier (t ∷ ts) digest = ((is_taken name earlier t ≡ true) × (name t ≡ digest)) ⊎ Taken name (t ∷ earlier) ts digest

record IsLeastTaken (name : List ℕ → List ℕ) (earlier texts : List (List ℕ)) (digest : List ℕ) : Type 0 where
  taken : Taken name earlier texts digest
  least : (other : List ℕ) → Taken name earlier texts other → NotAfter digest other

IsLeastOf : (List ℕ → List ℕ) → List (List ℕ) → List (List ℕ) → Option (List ℕ) → Type 0
IsLeastOf name earlier texts found = MatchOption found ((digest : List ℕ) → ¬ Taken name earlier texts digest) (IsLeastTaken name earlier texts)

least_taken-is : (name : List ℕ → List ℕ) (earlier texts : List (List ℕ)) → IsLeastOf name earlier texts (least_taken name earlier texts)
unfolding least_taken lesser Taken IsLeastOf
least_taken-is name earlier [] = λ digest h. h
least_taken-is name earlier (t ∷ ts) = join (is_taken name earlier t) refl (least_taken name (t ∷ earlier) ts) (least_taken-is name (t ∷ earlier) ts)
  where
    mine_first : (found : List ℕ) → is_taken name earlier t ≡ true → NotAfter (name t) found → IsLeastTaken name (t ∷ earlier) ts found → IsLeastTaken name earlier (t ∷ ts) (name t)
    mine_first found e h ih = record {
      taken = inl (e, refl);
      least = λ other k. elim k [
        | inl mine ↦ subst (λ (d : List ℕ). NotAfter (name t) d) mine.1 (not_after_itself (name t))
        | inr later ↦ not_after_then (name t) found other h (ih.least other later)
      ];
    }

    found_first : (found : List ℕ) → (is_taken name earlier t ≡ true → NotAfter found (name t)) → IsLeastTaken name (t ∷ earlier) ts found → IsLeastTaken name earlier (t ∷ ts) found
    found_first found h ih = record {
      taken = inr ih.taken;
      least = λ other k. elim k [
        | inl mine ↦ subst (λ (d : List ℕ). NotAfter found d) mine.1 (h mine.0)
        | inr later ↦ ih.least other later
      ];
    }

    join : (b : Bool) → is_taken name earlier t ≡ b → (r : Option (List ℕ)) → IsLeastOf name (t ∷ earlier) ts r → IsLeastOf name earlier (t ∷ ts) (lesser (if b then Some (name t) else None) r)
    join true e None ih = record {
      taken = inl (e, refl);
      least = λ other k. elim k [
        | inl mine ↦ subst (λ (d : List ℕ). NotAfter (name t) d) mine.1 (not_after_itself (name t))
        | inr later ↦ absurd (ih other later)
      ];
    }
    join true e (Some found) ih = by_order (is_lt (slice_cmp nat_cmp found (name t))) refl
      where
        by_order : (b : Bool) → is_lt (slice_cmp nat_cmp found (name t)) ≡ b → IsLeastTaken name earlier (t ∷ ts) (if b then found else name t)
        by_order true l = found_first found (λ _. not_after_before found (name t) (less_from _ l)) ih
        by_order false l = mine_first found e (not_before found (name t) (not_less_from _ l)) ih
    join false e None ih = λ digest k. elim k [
      | inl mine ↦ cc
      | inr later ↦ ih digest later
    ]
    join false e (Some found) ih = found_first found (λ mine. cc) ih

-- ---- what is taken is what clashes

named_among : (name : List ℕ → List ℕ) (digest : List ℕ) (texts : List (List ℕ)) → list_any (λ other. pointwise nat_eq (name other) digest) texts ≡ true → (other : List ℕ) × IsIn texts other × (name other ≡ digest)
named_among name digest [] e = cc
named_among name digest (t ∷ ts) e =
    elim (or_cases (pointwise nat_eq (name t) digest) _ e) [
      | inl first ↦ (t, inl refl, (bytes_decides (name t) digest).0 first)
      | inr later ↦ let found = named_among name digest ts later in (found.0, inr found.1, found.2)
    ]

among_named : (name : List ℕ → List ℕ) (digest : List ℕ) (texts : List (List ℕ)) (other : List ℕ) → IsIn texts other → name other ≡ digest → list_any (λ u. pointwise nat_eq (name u) digest) texts ≡ true
among_named name digest [] other h e = absurd h
among_named name digest (t ∷ ts) other (inl is) e = or_left (pointwise nat_eq (name t) digest) _ ((bytes_decides (name t) digest).1 (ap name is ∙ e))
among_named name digest (t ∷ ts) other (inr h) e = or_right (pointwise nat_eq (name t) digest) _ (among_named name digest ts other h e)

-- one of these texts has the digest, and either it is zero or another text here or among the earlier ones has it
record Clashing (name : List ℕ → List ℕ) (earlier texts : List (List ℕ)) (digest : List ℕ) : Type 0 where
  one : List ℕ
  among : IsIn texts one
  named : name one ≡ digest
  why : (digest ≡ zero_digest) ⊎ ((other : List ℕ) × (IsIn earlier other ⊎ IsIn texts other) × (name other ≡ digest) × (one ≢ other))

Apart : List (List ℕ) → List (List ℕ) → Type 0
Apart earlier texts = (u v : List ℕ) → IsIn earlier u → IsIn texts v → u ≢ v

apart_later : (earlier : List (List ℕ)) (t : List ℕ) (ts : List (List ℕ)) → Apart earlier (t ∷ ts) → Rise (t ∷ ts) → Apart (t ∷ earlier) ts
unfolding Apart IsStrictlySortedBy
apart_later earlier t ts apart rise u v (inl is) k = subst (λ (w : List ℕ). w ≢ v) is (before_differs t v (all_at (λ w. Before t w) ts v rise.0 k))
apart_later earlier t ts apart rise u v (inr h) k = apart u v h (inr k)

rises_behind : (t : List ℕ) (ts : List (List ℕ)) → Rise (t ∷ ts) → Rise ts
unfolding IsStrictlySortedBy
rises_behind t ts rise = rise.1

taken_clashes : (name : List ℕ → List ℕ) (earlier texts : List (List ℕ)) (digest : List ℕ) → Apart earlier texts → Rise texts → Taken name earlier texts digest → Clashing name earlier texts digest
unfolding Taken Apart
taken_clashes name earlier [] digest apart rise h = absurd h
taken_clashes name earlier (t ∷ ts) digest apart rise (inl mine) = record { one = t; among = inl refl; named = mine.1; why = why (or_cases (pointwise nat_eq (name t) zero_digest) _ mine.0) }
  where
    why : (pointwise nat_eq (name t) zero_digest ≡ true) ⊎ (list_any (λ other. pointwise nat_eq (name other) (name t)) earlier ≡ true) → (digest ≡ zero_digest) ⊎ ((other : List ℕ) × (IsIn earlier other ⊎ IsIn (t ∷ ts) other) × (name other ≡ digest) × (t ≢ other))
    why (inl z) = inl (sym mine.1 ∙ (bytes_decides (name t) zero_digest).0 z)
    why (inr shared) =
        let found = named_among name (name t) earlier shared in
        inr (found.0, inl found.1, found.2 ∙ mine.1, λ e. apart found.0 t found.1 (inl refl) (sym e))
taken_clashes name earlier (t ∷ ts) digest apart rise (inr later) = widened (taken_clashes name (t ∷ earlier) ts digest (apart_later earlier t ts apart rise) (rises_behind t ts rise) later)
  where
    moved : (other : List ℕ) → IsIn (t ∷ earlier) other ⊎ IsIn ts other → IsIn earlier other ⊎ IsIn (t ∷ ts) other
    moved other (inl (inl is)) = inr (inl is)
    moved other (inl (inr h)) = inl h
    moved other (inr h) = inr (inr h)

    widened : Clashing name (t ∷ earlier) ts digest → Clashing name earlier (t ∷ ts) digest
    widened c = record {
      one = c.one;
      among = inr c.among;
      named = c.named;
      why = elim c.why [
        | inl z ↦ inl z
        | inr shared ↦ inr (shared.0, moved shared.0 shared.1, shared.2, shared.3)
      ];
    }

zero_taken : (name : List ℕ → List ℕ) (earlier texts : List (List ℕ)) (text : List ℕ) → IsIn texts text → name text ≡ zero_digest → Taken name earlier texts (name text)
unfolding Taken
zero_taken name earlier [] text h e = absurd h
zero_taken name earlier (t ∷ ts) text (inl is) e = inl (or_left (pointwise nat_eq (name t) zero_digest) _ ((bytes_decides (name t) zero_digest).1 (ap name is ∙ e)), ap name is)
zero_taken name earlier (t ∷ ts) text (inr h) e = inr (zero_taken name (t ∷ earlier) ts text h e)

earlier_taken : (name : List ℕ → List ℕ) (earlier texts : List (List ℕ)) (text other : List ℕ) → IsIn texts text → IsIn earlier other → name other ≡ name text → Taken name earlier texts (name text)
unfolding Taken
earlier_taken name earlier [] text other h k e = absurd h
earlier_taken name earlier (t ∷ ts) text other (inl is) k e = inl (or_right (pointwise nat_eq (name t) zero_digest) _ (among_named name (name t) earlier other k (e ∙ sym (ap name is))), ap name is)
earlier_taken name earlier (t ∷ ts) text other (inr h) k e = inr (earlier_taken name (t ∷ earlier) ts text other h (inr k) e)

shared_taken : (name : List ℕ → List ℕ) (earlier texts : List (List ℕ)) (one other : List ℕ) → IsIn texts one → IsIn texts other → one ≢ other → name other ≡ name one → Taken name earlier texts (name one)
unfolding Taken
shared_taken name earlier [] one other h k differ e = absurd h
shared_taken name earlier (t ∷ ts) one other (inl is) (inl also) differ e = absurd (differ (sym is ∙ also))
shared_taken name earlier (t ∷ ts) one other (inl is) (inr k) differ e = inr (subst (λ (d : List ℕ). Taken name (t ∷ earlier) ts d) e (earlier_taken name (t ∷ earlier) ts other t k (inl refl) (ap name is ∙ sym e)))
shared_taken name earlier (t ∷ ts) one other (inr h) (inl also) differ e = inr (earlier_taken name (t ∷ earlier) ts one t h (inl refl) (ap name also ∙ e))
shared_taken name earlier (t ∷ ts) one other (inr h) (inr k) differ e = inr (shared_taken name (t ∷ earlier) ts one other h k differ e)

taken_from : (name : List ℕ → List ℕ) (texts : List (List ℕ)) (digest : List ℕ) → IsClash name texts digest → Taken name [] texts digest
taken_from name texts digest (is_zero text within named z) = subst (λ (d : List ℕ). Taken name [] texts d) named (zero_taken name [] texts text (in_of_contains texts text within) (named ∙ z))
taken_from name texts digest (is_shared one other within also differ named alike) = subst (λ (d : List ℕ). Taken name [] texts d) named (shared_taken name [] texts one other (in_of_contains texts one within) (in_of_contains texts other also) differ (alike ∙ sym named))

clash_from : (name : List ℕ → List ℕ) (texts : List (List ℕ)) (digest : List ℕ) → Rise texts → Taken name [] texts digest → IsClash name texts digest
unfolding Apart
clash_from name texts digest rise taken = told (taken_clashes name [] texts digest (λ u v h k. absurd h) rise taken)
  where
    among : (c : Clashing name [] texts digest) (other : List ℕ) → IsIn [] other ⊎ IsIn texts other → IsIn texts other
    among c other (inl h) = absurd h
    among c other (inr h) = h

    told : Clashing name [] texts digest → IsClash name texts digest
    told c = elim c.why [
      | inl z ↦ is_zero c.one (contains_of_in texts c.one c.among) c.named z
      | inr shared ↦ is_shared c.one shared.0 (contains_of_in texts c.one c.among) (contains_of_in texts shared.0 (among c shared.0 shared.1)) shared.3 c.named shared.2
    ]

pub clashes_found : (name : List ℕ → List ℕ) (texts : List (List ℕ)) → Rise texts → MatchOption (least_clash name texts) ((digest : List ℕ) → ¬ IsClash name texts digest) (IsLeastClash name texts)
unfolding IsLeastOf
clashes_found name texts rise = go (least_taken name [] texts) (least_taken-is name [] texts)
  where
    go : (found : Option (List ℕ)) → IsLeastOf name [] texts found → MatchOption found ((digest : List ℕ) → ¬ IsClash name texts digest) (IsLeastClash name texts)
    go None h = λ digest clash. h digest (taken_from name texts digest clash)
    go (Some digest) h = record { clashes = clash_from name texts digest rise h.taken; least = λ other clash. h.least other (taken_from name texts other clash) }

-- ---- texts that don't clash

NoClash-from : (texts : List (List ℕ)) → ((digest : List ℕ) → ¬ IsClash sha256 texts digest) → NoClash texts
NoClash-from texts none = record {
  apart = λ a b h k e. by_test a b h k e (pointwise nat_eq a b) refl;
  nonzero = λ a h e. none zero_digest (is_zero a h e refl);
}
  where
    by_test : (a b : List ℕ) → Contains texts a → Contains texts b → sha256 a ≡ sha256 b → (same : Bool) → pointwise nat_eq a b ≡ same → a ≡ b
    by_test a b h k e true s = (bytes_decides a b).0 s
    by_test a b h k e false s = absurd (none (sha256 b) (is_shared a b h k (λ is. different (sym s ∙ (bytes_decides a b).1 is)) e refl))
      where
        different : false ≡ true → ⊥
        different e = cc

none_clash : (texts : List (List ℕ)) → NoClash texts → (digest : List ℕ) → ¬ IsClash sha256 texts digest
none_clash texts h digest (is_zero text within named z) = h.nonzero text within (named ∙ z)
none_clash texts h digest (is_shared one other within also differ named alike) = differ (h.apart one other within also (named ∙ sym alike))

pub NoClash-of_none : (texts : List (List ℕ)) → Rise texts → least_clash sha256 texts ≡ None → NoClash texts
NoClash-of_none texts rise e =
    let P : Option (List ℕ) → Type 0 = λ found. MatchOption found ((digest : List ℕ) → ¬ IsClash sha256 texts digest) (IsLeastClash sha256 texts) in
    NoClash-from texts (subst P e (clashes_found sha256 texts rise))

pub none_of_NoClash : (texts : List (List ℕ)) → Rise texts → NoClash texts → least_clash sha256 texts ≡ None
none_of_NoClash texts rise h = go (least_clash sha256 texts) (clashes_found sha256 texts rise)
  where
    go : (found : Option (List ℕ)) → MatchOption found ((digest : List ℕ) → ¬ IsClash sha256 texts digest) (IsLeastClash sha256 texts) → found ≡ None
    go None k = refl
    go (Some digest) k = absurd (none_clash texts h digest k.clashes)

-- ---- the lesser of several

pub before_then : (p q r : List ℕ) → is_lt (slice_cmp nat_cmp p q) ≡ true → is_lt (slice_cmp nat_cmp q r) ≡ true → is_lt (slice_cmp nat_cmp p r) ≡ true
before_then p q r h k = ap is_lt (nat_list_cmp_total.trans p q r (less_from _ h) (less_from _ k))

back_turned : (o : Ordering) → o ≢ Greater → is_lt (ordering_reverse o) ≡ false
back_turned Less h = refl
back_turned Equal h = refl
back_turned Greater h = absurd (h refl)

not_before_then : (p q r : List ℕ) → is_lt (slice_cmp nat_cmp p q) ≡ false → is_lt (slice_cmp nat_cmp q r) ≡ false → is_lt (slice_cmp nat_cmp p r) ≡ false
not_before_then p q r h k =
    ap is_lt (nat_list_cmp_total.antisymm p r)
    ∙ back_turned (slice_cmp nat_cmp r p) (not_after_then r q p (not_before q r (not_less_from _ k)) (not_before p q (not_less_from _ h)))

pub lesser-then : (a b c : Option (List ℕ)) → lesser (lesser a b) c ≡ lesser a (lesser b c)
unfolding lesser
lesser-then None b c = refl
lesser-then (Some a) None c = refl
lesser-then (Some a) (Some b) None = refl
lesser-then (Some a) (Some b) (Some c) = go (is_lt (slice_cmp nat_cmp b a)) refl (is_lt (slice_cmp nat_cmp c b)) refl
  where
    go : (x : Bool) → is_lt (slice_cmp nat_cmp b a) ≡ x → (y : Bool) → is_lt (slice_cmp nat_cmp c b) ≡ y
        → Some (if is_lt (slice_cmp nat_cmp c (if x then b else a)) then c else if x then b else a) ≡ Some (if is_lt (slice_cmp nat_cmp (if y then c else b) a) then if y then c else b else a)
    go true h true k = rw (k, before_then c b a k h) refl
    go true h false k = rw (k, h) refl
    go false h true k = refl
    go false h false k = rw (h, not_before_then c b a k h) refl

pub lesser-none : (a : Option (List ℕ)) → lesser a None ≡ a
unfolding lesser
lesser-none None = refl
lesser-none (Some a) = refl
