-- Digests in the order of their bytes, and how often each stands in a list.
use Rattle.std.proofs.Common.{◌≡◌, ℕ, zero, suc, ◌+◌, ◌<◌, ◌≤◌, Bool, true, false, cond, leb, nat_eq, List, [], ◌∷◌, length, map, get_or, Contains, count_by, filter, IsSorted, IsPermutation, Ordering, Less, Equal, Greater, is_eq, is_lt, is_le, is_gt, is_ge, inl, inr, refl, sym, ap, ◌∙◌, subst, arith}
use Rattle.std.specs.Cmp.{IsTotalOrder}
use Rattle.std.specs.Cmp.Lexicographic.{pointwise, texts_ties, bytes_decides}
use Rattle.std.specs.Ordering.{on, ordering_index, ordering_reverse}
use Rattle.std.specs.List.{AllByRecursion, AllWithin}
use Rattle.std.specs.List.Sorted.{IsStrictlySortedBy, IsPartitionedBy, IsPartitionPoint}
use Rattle.std.proofs.lemmas.Bool.{true≢false, cases_Bool, cond-true, cond-false, cond_both, false_from_ne_true}
use Rattle.std.proofs.lemmas.Cmp.{on_total, nat_list_cmp_total}
use Rattle.std.proofs.lemmas.List.{get_or-map, get_or_default, length-map}
use Rattle.std.proofs.lemmas.Map.Keys.{Less-from_sorted}
use Rattle.std.proofs.lemmas.List.Sorted.{IsPartitionedBy-leb, searchable_from_sorted, sum_by-IsPermutation}
use Rattle.std.proofs.lemmas.List.Sums.{sum_by-cons}
use Rattle.base_core.specs.declared.hash.Digest.{Digest}
use Rattle.trie_update.specs.Balances.{times_in, by_bytes, Ascends, AreBelow, AreUpTo}

-- ---- digests

pub by_bytes-total : IsTotalOrder by_bytes
by_bytes-total = on_total (λ d. d.0) nat_list_cmp_total

pub digest-same : (d e : Digest) → d.0 ≡ e.0 → d ≡ e
digest-same d e same = ap (λ bytes. record { 0 = bytes }) same

pub told-same : (d e : Digest) → pointwise nat_eq d.0 e.0 ≡ true → d ≡ e
told-same d e told = digest-same d e ((bytes_decides d.0 e.0).0 told)

tied : (o : Ordering) → is_lt o ≡ false → is_lt (ordering_reverse o) ≡ false → is_eq o ≡ true
tied Less p q = absurd (true≢false p)
tied Equal p q = refl
tied Greater p q = absurd (true≢false q)

-- neither is below the other
pub squeezed : (d e : Digest) → is_lt (by_bytes d e) ≡ false → is_lt (by_bytes e d) ≡ false → d ≡ e
squeezed d e p q =
    let back = sym (ap is_lt (by_bytes-total.antisymm e d)) ∙ q in
    told-same d e (texts_ties d.0 e.0 ∙ tied (by_bytes d e) p back)

-- ---- members of lists

pub Contains-cons : {X : Type 0} (x : X) (xs : List X) (y : X) → Contains xs y → Contains (x ∷ xs) y
Contains-cons x xs y c = (suc c.0, omega (arith, c.1), c.2)

pub Contains-map : {X Y : Type 0} (f : X → Y) (xs : List X) (x : X) → Contains xs x → Contains (map f xs) (f x)
Contains-map f xs x c = (c.0, omega (arith, c.1, length-map xs f), get_or-map f xs c.0 x (f x) c.1 ∙ ap f c.2)

pub Contains-filter : {X : Type 0} (p : X → Bool) (xs : List X) (x : X) → p x ≡ true → Contains xs x → Contains (filter p xs) x
Contains-filter {X} p xs x passes c = from xs c.0 c.1 c.2
  where
    from : (ys : List X) (k : ℕ) → k < length ys → get_or ys k x ≡ x → Contains (filter p ys) x
    from [] k h e = absurd (omega arith)
    from (y ∷ ys) zero h e = subst (λ b. Contains (cond b (y ∷ filter p ys) (filter p ys)) x) (sym (ap p e ∙ passes)) (0, omega arith, e)
    from (y ∷ ys) (suc k) h e =
        let c = from ys k (omega arith) e in
        cond_both (p y) (y ∷ filter p ys) (filter p ys) (λ zs. Contains zs x) (λ _. Contains-cons y (filter p ys) x c) (λ _. c)

-- ---- rising lists

pub all-map : {X Y : Type 0} (P : Y → Type 0) (f : X → Y) (xs : List X) → AllByRecursion (λ x. P (f x)) xs → AllByRecursion P (map f xs)
all-map P f [] all = tt
all-map P f (x ∷ xs) all = (all.0, all-map P f xs all.1)

pub rising-map : {X Y : Type 0} (R : Y → Y → Ordering) (f : X → Y) (xs : List X) → IsStrictlySortedBy (on f R) xs → IsStrictlySortedBy R (map f xs)
unfolding IsStrictlySortedBy
rising-map R f [] rising = tt
rising-map R f (x ∷ xs) rising = (all-map (λ y. R (f x) y ≡ Less) f xs rising.0, rising-map R f xs rising.1)

pub sorted-map : {X : Type 0} (f : X → Digest) (x : Digest → X) (xs : List X) → IsSorted (on f by_bytes) xs → IsSorted by_bytes (map f xs)
sorted-map f x xs sorted k d from below =
    let longer = length-map xs f in
    subst (λ a. is_lt (by_bytes a (get_or (map f xs) k d)) ≡ false) (sym (get_or-map f xs (k + 1) (x d) d (omega arith)))
    (subst (λ b. is_lt (by_bytes (f (get_or xs (k + 1) (x d))) b) ≡ false) (sym (get_or-map f xs k (x d) d (omega arith)))
    (sorted k (x d) from (omega arith)))

-- ---- how often a digest stands in a list

pub times_in-permutation : (digests others : List Digest) → IsPermutation digests others → (d : List ℕ) → times_in others d ≡ times_in digests d
times_in-permutation digests others moved d = sum_by-IsPermutation (λ e. cond (pointwise nat_eq e.0 d) 1 0) digests others moved

pub member-counted : (digests : List Digest) (d : Digest) → 0 < times_in digests d.0 → Contains digests d
member-counted [] d some = absurd (omega arith)
member-counted (e ∷ digests) d some =
    elim (cases_Bool (pointwise nat_eq e.0 d.0)) [
      | inl same ↦ (0, omega arith, told-same e d same)
      | inr other ↦ (
          let here : cond {A = ℕ} (pointwise nat_eq e.0 d.0) 1 0 ≡ 0 = cond-false (pointwise nat_eq e.0 d.0) 1 0 other in
          let split : times_in (e ∷ digests) d.0 ≡ cond (pointwise nat_eq e.0 d.0) 1 0 + times_in digests d.0 = sum_by-cons (λ x. cond (pointwise nat_eq x.0 d.0) 1 0) e digests in
          Contains-cons e digests d (member-counted digests d (omega arith)))
    ]

-- those that pass stand first
counted : {X : Type 0} (p : X → Bool) (xs : List X) (i : ℕ) → i ≤ length xs → IsPartitionPoint (λ x. p x ≡ true) (λ x. p x ≡ false) xs i → count_by p xs ≡ i
counted p [] i short parted = omega arith
counted p (x ∷ xs) zero short parted =
    let here : cond {A = ℕ} (p x) 1 0 ≡ 0 = cond-false (p x) 1 0 (parted.1 0 x (omega arith) (omega arith)) in
    let split : count_by p (x ∷ xs) ≡ cond (p x) 1 0 + count_by p xs = sum_by-cons (λ y. cond (p y) 1 0) x xs in
    let rest = counted p xs 0 (omega arith) (λ k d from below. absurd (omega arith), λ k d from below. parted.1 (suc k) d (omega arith) (omega arith)) in
    omega arith
counted p (x ∷ xs) (suc i) short parted =
    let here : cond {A = ℕ} (p x) 1 0 ≡ 1 = cond-true (p x) 1 0 (parted.0 0 x (omega arith) (omega arith)) in
    let split : count_by p (x ∷ xs) ≡ cond (p x) 1 0 + count_by p xs = sum_by-cons (λ y. cond (p y) 1 0) x xs in
    let rest = counted p xs i (omega arith) (λ k d from below. parted.0 (suc k) d (omega arith) (omega arith), λ k d from below. parted.1 (suc k) d (omega arith) (omega arith)) in
    omega arith

-- those that pass one test are those that pass either of two
both_counted : {X : Type 0} (p q r : X → Bool) → ((x : X) → cond (p x) 1 0 ≡ cond (q x) 1 0 + cond (r x) 1 0) → (xs : List X) → count_by p xs ≡ count_by q xs + count_by r xs
both_counted p q r each [] = refl
both_counted p q r each (x ∷ xs) =
    let here = each x in
    let split_p : count_by p (x ∷ xs) ≡ cond (p x) 1 0 + count_by p xs = sum_by-cons (λ y. cond (p y) 1 0) x xs in
    let split_q : count_by q (x ∷ xs) ≡ cond (q x) 1 0 + count_by q xs = sum_by-cons (λ y. cond (q y) 1 0) x xs in
    let split_r : count_by r (x ∷ xs) ≡ cond (r x) 1 0 + count_by r xs = sum_by-cons (λ y. cond (r y) 1 0) x xs in
    let rest = both_counted p q r each xs in
    omega arith

below-index : (o : Ordering) → is_lt o ≡ leb (ordering_index o) 0
below-index Less = refl
below-index Equal = refl
below-index Greater = refl

upto-index : (o : Ordering) → is_le o ≡ leb (ordering_index o) 1
upto-index Less = refl
upto-index Equal = refl
upto-index Greater = refl

parted : (digests : List Digest) (d : Digest) (most : ℕ) → IsSorted by_bytes digests → IsPartitionedBy (λ e. leb (ordering_index (by_bytes e d)) most) digests
parted digests d most sorted = IsPartitionedBy-leb (λ e. ordering_index (by_bytes e d)) digests most (searchable_from_sorted by_bytes-total (λ e. e) digests d sorted)

pub parted-below : (digests : List Digest) (d : Digest) → IsSorted by_bytes digests → IsPartitionedBy (λ e. is_lt (by_bytes e d)) digests
parted-below digests d sorted i j x from within passes = below-index _ ∙ parted digests d 0 sorted i j x from within (sym (below-index _) ∙ passes)

pub parted-upto : (digests : List Digest) (d : Digest) → IsSorted by_bytes digests → IsPartitionedBy (λ e. is_le (by_bytes e d)) digests
parted-upto digests d sorted i j x from within passes = upto-index _ ∙ parted digests d 1 sorted i j x from within (sym (upto-index _) ∙ passes)

-- the place where a test's passes end
pub point-found : {X : Type 0} (p : X → Bool) (xs : List X) (i : ℕ) → IsPartitionedBy p xs → AllWithin (λ x. p x ≡ true) xs 0 i → (i < length xs → (d : X) → p (get_or xs i d) ≡ false) → IsPartitionPoint (λ x. p x ≡ true) (λ x. p x ≡ false) xs i
point-found p xs i parted before here = (before, λ k d from within. false_from_ne_true (p (get_or xs k d)) (λ passes. true≢false (sym (parted i k d from within passes) ∙ here (omega arith) d)))

pub not_below-from_test : (d e : Digest) → true ≡ is_ge (by_bytes d e) → is_lt (by_bytes d e) ≡ false
not_below-from_test d e told = by (by_bytes d e) told
  where
    by : (o : Ordering) → true ≡ is_ge o → is_lt o ≡ false
    by Less told = absurd (true≢false told)
    by Equal told = refl
    by Greater told = refl

pub not_up_to-from_test : (d e : Digest) → true ≡ is_gt (by_bytes d e) → is_le (by_bytes d e) ≡ false
not_up_to-from_test d e told = by (by_bytes d e) told
  where
    by : (o : Ordering) → true ≡ is_gt o → is_le o ≡ false
    by Less told = absurd (true≢false told)
    by Equal told = absurd (true≢false told)
    by Greater told = refl

each_counted : (o : Ordering) → cond (is_le o) 1 0 ≡ cond (is_lt o) 1 0 + cond (is_eq o) 1 0
each_counted Less = refl
each_counted Equal = refl
each_counted Greater = refl

-- it stands from the place where none is below it to the place where each is above it
pub times_in-places : (digests : List Digest) (d : Digest) (first behind : ℕ) → first ≤ length digests → behind ≤ length digests
    → IsPartitionPoint (λ e. is_lt (by_bytes e d) ≡ true) (λ e. is_lt (by_bytes e d) ≡ false) digests first
    → IsPartitionPoint (λ e. is_le (by_bytes e d) ≡ true) (λ e. is_le (by_bytes e d) ≡ false) digests behind
    → first + times_in digests d.0 ≡ behind
times_in-places digests d first behind short short' below upto =
    let lower = counted (λ e. is_lt (by_bytes e d)) digests first short below in
    let all = counted (λ e. is_le (by_bytes e d)) digests behind short' upto in
    let split = both_counted (λ e. is_le (by_bytes e d)) (λ e. is_lt (by_bytes e d)) (λ e. pointwise nat_eq e.0 d.0) (λ e. each_counted (by_bytes e d) ∙ ap (λ b. cond (is_lt (by_bytes e d)) 1 0 + cond b 1 0) (sym (texts_ties e.0 d.0))) digests in
    omega arith

-- ---- one pass over a list, by digests that rise

-- the digests before a place are below all that are still to come
pub record IsAhead (digests : List Digest) (place : ℕ) (rising : List Digest) (turn : ℕ) : Type 0 where
  pub within : place ≤ length digests
  pub below : (k : ℕ) (x : Digest) → turn ≤ k → k < length rising → AreBelow digests place (get_or rising k x)

-- at most one digest, which is below another
below-after : (d e f : Digest) → is_le (by_bytes d e) ≡ true → by_bytes e f ≡ Less → is_lt (by_bytes d f) ≡ true
below-after d e f up_to less = by (by_bytes d e) refl up_to
  where
    by : (o : Ordering) → by_bytes d e ≡ o → is_le o ≡ true → is_lt (by_bytes d f) ≡ true
    by Less is told = ap is_lt (by_bytes-total.trans d e f is less)
    by Equal is told = ap is_lt (by_bytes-total.congr d e f is ∙ less)
    by Greater is told = absurd (true≢false (sym told))

module _ {digests rising : List Digest} {place turn : ℕ} where
  pub ahead-here : IsAhead digests place rising turn → (x : Digest) → turn < length rising → x ≡ get_or rising turn x → AreBelow digests place x
  ahead-here ahead x within here = subst (AreBelow digests place) (sym here) (ahead.below turn x (omega arith) within)

  pub ahead-next : Ascends rising → (x : Digest) → turn < length rising → x ≡ get_or rising turn x → place ≤ length digests → AreUpTo digests place x → IsAhead digests place rising (turn + 1)
  ahead-next up x within here short up_to = record {
    within = short;
    below = λ k y from below j z start end.
        below-after (get_or digests j z) (get_or rising turn y) (get_or rising k y)
        (subst (λ e. is_le (by_bytes (get_or digests j z) e) ≡ true) (here ∙ get_or_default rising turn x y within) (up_to j z start end))
        (Less-from_sorted by_bytes rising turn k y up (omega arith) below);
  }
