-- Rows by rising paths: which of them ends here, and the runs of a first nibble.
use Rattle.std.proofs.Common.{◌≡◌, ℕ, zero, suc, ◌<◌, ◌≤◌, ◌==◌, true, false, List, [], ◌∷◌, length, map, take, drop, None, Some, if◌then◌else◌, ◌⊎◌, inl, inr, refl, sym, ◌∙◌, ap, subst, arith}
use Rattle.std.proofs.lemmas.Bool.{cases_eq}
use Rattle.std.proofs.lemmas.Bool.Decides.{nat_tests}
use Rattle.std.specs.List.{AllByRecursion}
use Rattle.std.specs.List.Sorted.{IsStrictlySortedBy}
use Rattle.byte_model.proofs.Lists.{AllByRecursion-weaker}
use Rattle.trie_model.specs.State.{Row}
use Rattle.trie_model.specs.Tree.{rest_behind, below, ends_here}
use Rattle.trie_model.proofs.Rests.{equal_of_test}
use Rattle.trie_model.proofs.Order.{Before, RisingRows, slice_cmp-prefix}
use Rattle.trie_model.proofs.Pairs.{from_before}
use Rattle.trie_shape.specs.Runs.{Rises, StartsFrom, AllFrom, run_of, tails}

pub apart : (x y : ℕ) → x < y → (x == y) ≡ false
apart x y h = grind (arith, nat_tests)

pub apart' : (x y : ℕ) → y < x → (x == y) ≡ false
apart' x y h = grind (arith, nat_tests)

pub unequal : (x y : ℕ) → (x == y) ≡ false → x ≤ y → x < y
unequal x y t h = grind (arith, nat_tests)

-- ---- rows in order, by recursion and by their paths

all_rows : (p : List ℕ) (rows : List Row) → AllByRecursion (λ q. Before p q) (map (λ row. row.0) rows) → AllByRecursion (λ later. Before p later.0) rows
all_rows p [] h = tt
all_rows p (row ∷ rows) h = (h.0, all_rows p rows h.1)

all_paths : (p : List ℕ) (rows : List Row) → AllByRecursion (λ later. Before p later.0) rows → AllByRecursion (λ q. Before p q) (map (λ row. row.0) rows)
all_paths p [] h = tt
all_paths p (row ∷ rows) h = (h.0, all_paths p rows h.1)

pub rising : (rows : List Row) → Rises rows → RisingRows rows
unfolding IsStrictlySortedBy
rising [] h = tt
rising (row ∷ rows) h = (all_rows row.0 rows h.0, rising rows h.1)

pub rises : (rows : List Row) → RisingRows rows → Rises rows
unfolding IsStrictlySortedBy
rises [] h = tt
rises (row ∷ rows) h = (all_paths row.0 rows h.0, rises rows h.1)

-- ---- one path before another

-- by the first nibble, or behind it
pub first_or_rest : (x y : ℕ) (p q : List ℕ) → Before (x ∷ p) (y ∷ q) → (x < y) ⊎ ((x ≡ y) × Before p q)
first_or_rest x y p q h =
    let later = from_before x p (y ∷ q) h in
    let first : y ≡ later.0 = let e = later.2 in cc in
    let bound : x ≤ later.0 = later.3 in
    elim (cases_eq x y) [
      | inl same ↦ inr (same, sym (slice_cmp-prefix (x ∷ []) p q) ∙ subst (λ z. Before (x ∷ p) (z ∷ q)) (sym same) h)
      | inr differ ↦ inl (omega arith)
    ]

-- no path before another is longer than nothing
pub starts_later : (x : ℕ) (p q : List ℕ) → Before (x ∷ p) q → StartsFrom x q
starts_later x p [] h = cc
starts_later x p (y ∷ q) h = elim (first_or_rest x y p q h) [ inl l ↦ omega arith | inr e ↦ (let same = e.0 in omega arith) ]

pub some_nibble : (p q : List ℕ) → Before p q → StartsFrom 0 q
some_nibble [] [] h = cc
some_nibble (x ∷ p) [] h = cc
some_nibble p (y ∷ q) h = omega arith

-- ---- the row that ends here

-- the rows behind the first have nibbles left
pub all-behind : (row : Row) (rows : List Row) → RisingRows (row ∷ rows) → AllFrom 0 rows
all-behind row rows h = AllByRecursion-weaker (λ r. Before row.0 r.0) (λ r. StartsFrom 0 r.0) (λ r b. some_nibble row.0 r.0 b) rows h.0

pub none-ends : (rows : List Row) → AllFrom 0 rows → ends_here rows ≡ None
unfolding ends_here
none-ends [] h = refl
none-ends (([], value) ∷ rows) h = absurd h.0
none-ends ((x ∷ path, value) ∷ rows) h = none-ends rows h.1

pub ends-first : (value : List ℕ) (rows : List Row) → ends_here (([], value) ∷ rows) ≡ Some value
unfolding ends_here
ends-first value rows = refl

pub below-first : (x : ℕ) (value : List ℕ) (rows : List Row) → below (x ∷ []) (([], value) ∷ rows) ≡ below (x ∷ []) rows
unfolding below rest_behind
below-first x value rows = refl

-- ---- the run of rows that begin with a nibble

below-later : (x y : ℕ) (rows : List Row) → x < y → AllFrom y rows → below (x ∷ []) rows ≡ []
unfolding below rest_behind
below-later x y [] l h = refl
below-later x y (([], value) ∷ rows) l h = absurd h.0
below-later x y ((z ∷ path, value) ∷ rows) l h = let first = h.0 in let less : x < z = omega arith in rw (apart x z less) (below-later x y rows l h.1)

all-later : (x z : ℕ) (path : List ℕ) (rows : List Row) → x < z → AllByRecursion (λ r. Before (z ∷ path) r.0) rows → AllFrom (suc x) rows
all-later x z path rows l h = AllByRecursion-weaker (λ r. Before (z ∷ path) r.0) (λ r. StartsFrom (suc x) r.0) (λ r b. go r.0 (starts_later z path r.0 b)) rows h
  where
    go : (q : List ℕ) → StartsFrom z q → StartsFrom (suc x) q
    go [] b = absurd b
    go (w ∷ q) b = omega arith

module _ (x : ℕ) where
  pub after-run : (rows : List Row) → RisingRows rows → AllFrom x rows → AllFrom (suc x) (drop (run_of x rows) rows)
  unfolding run_of
  after-run [] h k = tt
  after-run (([], value) ∷ rows) h k = absurd k.0
  after-run ((y ∷ path, value) ∷ rows) h k =
      let first = k.0 in
      elim (x == y) as (λ b. (x == y) ≡ b → AllFrom (suc x) (drop (if b then suc (run_of x rows) else 0) ((y ∷ path, value) ∷ rows))) [
        | true ↦ λ t. after-run rows h.1 k.1
        | false ↦ λ t. (unequal x y t first, all-later x y path rows (unequal x y t first) h.0)
      ] refl

  pub below-run : (rows : List Row) → RisingRows rows → AllFrom x rows → below (x ∷ []) rows ≡ tails (take (run_of x rows) rows)
  unfolding run_of below rest_behind
  below-run [] h k = refl
  below-run (([], value) ∷ rows) h k = absurd k.0
  below-run ((y ∷ path, value) ∷ rows) h k =
      let first = k.0 in
      elim (x == y) as (λ b. (x == y) ≡ b → below (x ∷ []) ((y ∷ path, value) ∷ rows) ≡ tails (take (if b then suc (run_of x rows) else 0) ((y ∷ path, value) ∷ rows))) [
        | true ↦ λ t. rw t (ap (λ (rs : List Row). (path, value) ∷ rs) (below-run rows h.1 k.1))
        | false ↦ λ t. below-later x (suc x) ((y ∷ path, value) ∷ rows) (omega arith) (unequal x y t first, all-later x y path rows (unequal x y t first) h.0)
      ] refl

  pub below-after : (y : ℕ) (rows : List Row) → x < y → below (y ∷ []) rows ≡ below (y ∷ []) (drop (run_of x rows) rows)
  unfolding run_of below rest_behind
  below-after y [] l = refl
  below-after y (([], value) ∷ rows) l = refl
  below-after y ((z ∷ path, value) ∷ rows) l =
      elim (x == z) as (λ b. (x == z) ≡ b → below (y ∷ []) ((z ∷ path, value) ∷ rows) ≡ below (y ∷ []) (drop (if b then suc (run_of x rows) else 0) ((z ∷ path, value) ∷ rows))) [
        | true ↦ λ t. let same = equal_of_test x z t in let less : z < y = omega arith in rw (apart' y z less) (below-after y rows l)
        | false ↦ λ t. refl
      ] refl

  pub run-short : (rows : List Row) → run_of x rows ≤ length rows
  unfolding run_of
  run-short [] = omega arith
  run-short (([], value) ∷ rows) = omega arith
  run-short ((y ∷ q, value) ∷ rows) = let further = run-short rows in elim (x == y) as (λ b. (if b then suc (run_of x rows) else 0) ≤ suc (length rows)) [ true ↦ omega arith | false ↦ omega arith ]

pub rising-drop : (n : ℕ) (rows : List Row) → RisingRows rows → RisingRows (drop n rows)
rising-drop zero rows h = h
rising-drop (suc n) [] h = h
rising-drop (suc n) (row ∷ rows) h = rising-drop n rows h.1
