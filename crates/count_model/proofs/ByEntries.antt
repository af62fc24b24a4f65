-- Counts of digests that are changed entry by entry.
use Rattle.std.proofs.Common.{◌≡◌, ◌≢◌, ℕ, zero, suc, ◌+◌, ◌-◌, ◌≤◌, true, cond, List, [], ◌∷◌, ◌++◌, map, None, Some, Contains, ◌⊎◌, inl, inr, ⊎_elim, refl, sym, ◌∙◌, ap, ap₂, subst, arith}
use Rattle.std.specs.List.{AllByRecursion, flat_map, sum_by}
use Rattle.std.specs.declared.cmp.Ordering.TheVariants.{Less, Equal}
use Rattle.std.specs.List.Sorted.{IsStrictlySortedBy}
use Rattle.std.specs.Ordering.{nat_cmp}
use Rattle.std.specs.Cmp.Lexicographic.{slice_cmp}
use Rattle.std.specs.Str.{bytes_eq}
use Rattle.std.proofs.lemmas.List.Sums.{sum_by-append, sum_by-cons}
use Rattle.trie_model.proofs.Members.{IsIn, all_at, contains_of_in, in-map, in_of_contains}
use Rattle.trie_model.proofs.Growth.{slice_cmp-itself}
use Rattle.fork_model.proofs.Ids.{apart_is, same-itself, same_or_other}
use Rattle.trie_model.specs.State.{State}
use Rattle.batch_model.specs.Changes.{Changes}
use Rattle.change_model.specs.Ledger.{gain}
use Rattle.fork_model.specs.Trees.{Header, block_fault, dropped, is_live, passed}
use Rattle.fork_model.specs.States.{ForkState, IsForkState, head_moved, state_at, tree_of_blocks, with_block}
use Rattle.count_model.specs.Counts.{digest_count, fall, of_digest, rise, taken_away}
use Rattle.count_model.proofs.Told.{counted-block, counted-move}
use Rattle.count_model.specs.Entries.{Entry, Exceeds, times_of}

-- ---- how often entries tell a digest

pub times-cons : (entry : Entry) (rest : List Entry) (digest : List ℕ) → times_of (entry ∷ rest) digest ≡ cond (bytes_eq entry.0 digest) entry.1 0 + times_of rest digest
unfolding times_of
times-cons entry rest digest = sum_by-cons (λ (e : Entry). cond (bytes_eq e.0 digest) e.1 0) entry rest

pub times-append : (first second : List Entry) (digest : List ℕ) → times_of (first ++ second) digest ≡ times_of first digest + times_of second digest
unfolding times_of
times-append first second digest = sum_by-append (λ (e : Entry). cond (bytes_eq e.0 digest) e.1 0) first second

pub times-here : (digest : List ℕ) (n : ℕ) (rest : List Entry) → times_of ((digest, n) ∷ rest) digest ≡ n + times_of rest digest
times-here digest n rest = times-cons (digest, n) rest digest ∙ ap (λ b. cond b n 0 + times_of rest digest) (same-itself digest)

pub times-elsewhere : (digest : List ℕ) (n : ℕ) (rest : List Entry) (other : List ℕ) → other ≢ digest → times_of ((digest, n) ∷ rest) other ≡ times_of rest other
times-elsewhere digest n rest other apart = times-cons (digest, n) rest other ∙ ap (λ b. cond b n 0 + times_of rest other) (apart_is digest other (λ e. apart (sym e))) ∙ none (times_of rest other)
  where
    none : (m : ℕ) → 0 + m ≡ m
    none m = omega arith

times-nil : (digest : List ℕ) → times_of [] digest ≡ 0
unfolding times_of
times-nil digest = refl

-- the entries of several lists, one after the other
pub times-each : {X : Type 0} (of : X → List Entry) (f : X → ℕ) (xs : List X) (digest : List ℕ) → ((x : X) → IsIn xs x → times_of (of x) digest ≡ f x) → times_of (flat_map of xs) digest ≡ sum_by f xs
times-each of f [] digest each = times-nil digest
times-each of f (x ∷ xs) digest each =
    times-append (of x) (flat_map of xs) digest
    ∙ ap₂ (λ (a b : ℕ). a + b) (each x (inl refl)) (times-each of f xs digest (λ y i. each y (inr i)))
    ∙ sym (sum_by-cons f x xs)

-- ---- going down and up

module _ (low high : List ℕ → ℕ) (digest : List ℕ) (n : ℕ) (rest : List Entry) (exceeds : Exceeds low high ((digest, n) ∷ rest)) where
  here : low digest + (n + times_of rest digest) ≡ high digest
  here = ap (λ m. low digest + m) (sym (times-here digest n rest)) ∙ exceeds.by_entries digest

  elsewhere : (other : List ℕ) → other ≢ digest → low other + times_of rest other ≡ high other
  elsewhere other apart = ap (λ m. low other + m) (sym (times-elsewhere digest n rest other apart)) ∙ exceeds.by_entries other

  pub enough : n ≤ high digest
  enough = let e = here in omega (arith, e)

  pub fits : low digest + n ≤ high digest
  fits = let e = here in omega (arith, e)

  pub goes_down : (after : List ℕ → ℕ) → after digest ≡ high digest - n → ((other : List ℕ) → other ≢ digest → after other ≡ high other) → Exceeds low after rest
  goes_down after one others = record {
    by_entries = λ other.
        ⊎_elim
        (λ (same : other ≡ digest). subst (λ d. low d + times_of rest d ≡ after d) (sym same) (less (low digest) (times_of rest digest) (high digest) (after digest) here one))
        (λ apart. elsewhere other apart ∙ sym (others other apart))
        (same_or_other other digest);
  }
    where
      less : (low times high after : ℕ) → low + (n + times) ≡ high → after ≡ high - n → low + times ≡ after
      less low times high after e one = omega (arith, e, one)

  pub goes_up : (after : List ℕ → ℕ) → after digest ≡ low digest + n → ((other : List ℕ) → other ≢ digest → after other ≡ low other) → Exceeds after high rest
  goes_up after one others = record {
    by_entries = λ other.
        ⊎_elim
        (λ (same : other ≡ digest). subst (λ d. after d + times_of rest d ≡ high d) (sym same) (more (low digest) (times_of rest digest) (high digest) (after digest) here one))
        (λ apart. ap (λ m. m + times_of rest other) (others other apart) ∙ elsewhere other apart)
        (same_or_other other digest);
  }
    where
      more : (low times high after : ℕ) → low + (n + times) ≡ high → after ≡ low + n → after + times ≡ high
      more low times high after e one = omega (arith, e, one)

pub at_the_end : (low high : List ℕ → ℕ) → Exceeds low high [] → (digest : List ℕ) → low digest ≡ high digest
at_the_end low high exceeds digest = none (low digest) (times_of [] digest) (times-nil digest) ∙ exceeds.by_entries digest
  where
    none : (m n : ℕ) → n ≡ 0 → m ≡ m + n
    none m n e = omega (arith, e)

-- ---- entries that tell each digest once

-- a digest that no entry tells
times-none : (entries : List Entry) (digest : List ℕ) → ((entry : Entry) → IsIn entries entry → entry.0 ≢ digest) → times_of entries digest ≡ 0
times-none [] digest apart = times-nil digest
times-none ((d, n) ∷ rest) digest apart = times-elsewhere d n rest digest (λ e. apart (d, n) (inl refl) (sym e)) ∙ times-none rest digest (λ entry i. apart entry (inr i))

different : Less ≡ Equal → ⊥
different e = cc

-- where entries rise, none behind the first tells its digest
rest-apart : (digest : List ℕ) (rest : List Entry) → AllByRecursion (λ other. slice_cmp nat_cmp digest other ≡ Less) (map (λ entry. entry.0) rest) → (entry : Entry) → IsIn rest entry → entry.0 ≢ digest
rest-apart digest rest below entry i e =
    let less = all_at (λ other. slice_cmp nat_cmp digest other ≡ Less) (map (λ (entry : Entry). entry.0) rest) entry.0 below (in-map (λ (entry : Entry). entry.0) rest entry i) in
    different (sym less ∙ ap (slice_cmp nat_cmp digest) e ∙ slice_cmp-itself digest)

abbrev digests_of : List Entry → List (List ℕ)
digests_of entries = map (λ entry. entry.0) entries

told_in : (told : List ℕ → ℕ) (entries : List Entry) → IsStrictlySortedBy (slice_cmp nat_cmp) (digests_of entries) → AllByRecursion (λ entry. entry.1 ≡ told entry.0) entries → (digest : List ℕ) → IsIn (digests_of entries) digest → times_of entries digest ≡ told digest
unfolding IsStrictlySortedBy
told_in told [] rising right digest i = absurd i
told_in told ((d, n) ∷ rest) rising right digest i = go (told_in told rest rising.1 right.1 digest) i
  where
    first : times_of ((d, n) ∷ rest) d ≡ told d
    first = times-here d n rest ∙ ap (λ m. n + m) (times-none rest d (rest-apart d rest rising.0)) ∙ none n ∙ right.0
      where
        none : (m : ℕ) → m + 0 ≡ m
        none m = omega arith

    go : (IsIn (digests_of rest) digest → times_of rest digest ≡ told digest) → (d ≡ digest) ⊎ IsIn (digests_of rest) digest → times_of ((d, n) ∷ rest) digest ≡ told digest
    go further (inl e) = subst (λ x. times_of ((d, n) ∷ rest) x ≡ told x) e first
    go further (inr i) =
        ⊎_elim
        (λ (same : digest ≡ d). subst (λ x. times_of ((d, n) ∷ rest) x ≡ told x) (sym same) first)
        (λ apart. times-elsewhere d n rest digest apart ∙ further i)
        (same_or_other digest d)

told_or_none : (entries : List Entry) (digest : List ℕ) → IsIn (digests_of entries) digest ⊎ (times_of entries digest ≡ 0)
told_or_none [] digest = inr (times-nil digest)
told_or_none ((d, n) ∷ rest) digest =
    let further = told_or_none rest digest in
    ⊎_elim
    (λ (same : digest ≡ d). inl (inl (sym same)))
    (λ apart. ⊎_elim (λ (i : IsIn (digests_of rest) digest). inl (inr i)) (λ none. inr (times-elsewhere d n rest digest apart ∙ none)) further)
    (same_or_other digest d)

-- Entries tell what a function does, where each is right, they rise, and no digest is left out that the function tells.
pub times_told : (told : List ℕ → ℕ) (entries : List Entry) → IsStrictlySortedBy (slice_cmp nat_cmp) (digests_of entries) → AllByRecursion (λ entry. entry.1 ≡ told entry.0) entries → ((d : List ℕ) → 1 ≤ told d → Contains (digests_of entries) d) → (digest : List ℕ) → times_of entries digest ≡ told digest
times_told told entries rising right all digest =
    ⊎_elim
    (λ (i : IsIn (digests_of entries) digest). told_in told entries rising right digest i)
    (λ none. go (told digest) refl none)
    (told_or_none entries digest)
  where
    go : (n : ℕ) → told digest ≡ n → times_of entries digest ≡ 0 → times_of entries digest ≡ told digest
    go zero e none = none ∙ sym e
    go (suc n) e none = told_in told entries rising right digest (in_of_contains (digests_of entries) digest (all digest (omega (arith, e))))

-- ---- a move and a block

pub move-begins : (forks : ForkState) (id : List ℕ) (left : List Entry) → IsForkState forks → is_live (tree_of_blocks forks) id ≡ true → ((digest : List ℕ) → times_of left digest ≡ taken_away (of_digest digest) forks id) → Exceeds (digest_count (head_moved forks id)) (digest_count forks) left
move-begins forks id left is live told = record { by_entries = λ digest. ap (λ n. digest_count (head_moved forks id) digest + n) (told digest) ∙ counted-move (of_digest digest) forks id is live }

pub block-begins : (most : ℕ) (forks : ForkState) (header : Header) (changes : Changes) (prev : State) (left : List Entry) → IsForkState forks → block_fault most (tree_of_blocks forks) header ≡ None → state_at forks header.prev ≡ Some prev → ((digest : List ℕ) → times_of left digest ≡ gain prev changes digest) → Exceeds (digest_count forks) (digest_count (with_block forks header changes)) left
block-begins most forks header changes prev left is fault at told = record { by_entries = λ digest. ap (λ n. digest_count forks digest + n) (told digest) ∙ sym (counted-block (of_digest digest) most forks header changes prev is fault at) }

pub move-told : (forks : ForkState) (id : List ℕ) (lost made : List ℕ → List Entry) (digest : List ℕ) → ((q : List ℕ) → Contains (passed (tree_of_blocks forks) id) q → times_of (lost q) digest ≡ fall (of_digest digest) forks q) → ((q : List ℕ) → Contains (dropped (tree_of_blocks forks) id) q → times_of (made q) digest ≡ rise (of_digest digest) forks q) → times_of (flat_map lost (passed (tree_of_blocks forks) id) ++ flat_map made (dropped (tree_of_blocks forks) id)) digest ≡ taken_away (of_digest digest) forks id
unfolding taken_away
move-told forks id lost made digest falls rises =
    let ps = passed (tree_of_blocks forks) id in
    let ds = dropped (tree_of_blocks forks) id in
    times-append (flat_map lost ps) (flat_map made ds) digest
    ∙ ap₂ (λ (a b : ℕ). a + b)
    (times-each lost (fall (of_digest digest) forks) ps digest (λ q i. falls q (contains_of_in ps q i)))
    (times-each made (rise (of_digest digest) forks) ds digest (λ q i. rises q (contains_of_in ds q i)))

-- what is held on the way stands between
pub way_down : (low first high : List ℕ → ℕ) (done left : List Entry) → Exceeds low first (done ++ left) → Exceeds low high left → (digest : List ℕ) → (low digest ≤ high digest) × (high digest ≤ first digest)
way_down low first high done left all rest digest =
    let a = all.by_entries digest in
    let b = rest.by_entries digest in
    let c = times-append done left digest in
    (omega (arith, b), omega (arith, a, b, c))

pub way_up : (first low high : List ℕ → ℕ) (done left : List Entry) → Exceeds first high (done ++ left) → Exceeds low high left → (digest : List ℕ) → (first digest ≤ low digest) × (low digest ≤ high digest)
way_up first low high done left all rest digest =
    let a = all.by_entries digest in
    let b = rest.by_entries digest in
    let c = times-append done left digest in
    (omega (arith, a, b, c), omega (arith, b))
