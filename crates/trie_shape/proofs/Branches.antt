-- The children of a branch, gathered nibble by nibble.
use Rattle.std.proofs.Common.{◌≡◌, ◌≢◌, ℕ, zero, suc, ◌+◌, ◌^◌, ◌<◌, ◌≤◌, List, [], ◌∷◌, length, take, drop, set, Option, None, option_map, inl, inr, refl, sym, ◌∙◌, ap, ap₂, subst, arith}
use Rattle.std.specs.List.{AllByRecursion}
use Rattle.std.proofs.lemmas.Bool.{cases_lt}
use Rattle.std.proofs.lemmas.List.{length-map}
use Rattle.std.proofs.Math.ListN.{length-set}
use Rattle.std.proofs.Common.{get_or-set_other, get_or-set_same}
use Rattle.base_core.specs.declared.hash.Digest.{Digest}
use Rattle.byte_model.specs.Below.{sum_below}
use Rattle.byte_model.specs.Nibbles.{nibbles}
use Rattle.byte_model.specs.Node.{ValueRef as ValueOfRecord}
use Rattle.byte_model.proofs.Below.{sum_below-more, sum_below-part}
use Rattle.byte_model.proofs.Lists.{AllByRecursion-take, AllByRecursion-drop}
use Rattle.trie_model.specs.State.{Row}
use Rattle.trie_model.specs.Tree.{below, ends_here, tree_of}
use Rattle.trie_model.specs.Texts.{text, usage, value_ref, name_of}
use Rattle.trie_model.proofs.Order.{RisingRows, rising-below}
use Rattle.trie_model.proofs.Pairs.{Small}
use Rattle.trie_model.proofs.Shapes.{ShortValues}
use Rattle.node_codec.specs.Meanings.{children_in}
use Rattle.trie_shape.specs.Runs.{Rises, StartsFrom, AllFrom, run_of, tails, prefix_of, DoFork}
use Rattle.trie_shape.specs.RowsAt.{Lent, row_at, rows_at, IsRowAt, AreRowsAt, IsLeft}
use Rattle.trie_shape.specs.Shows.{IsName, child_of, IsBranchOf}
use Rattle.trie_shape.proofs.Runs.{rising, rises, after-run, below-run, below-after, rising-drop}
use Rattle.trie_shape.proofs.SoundRows.{HasShortPath, AreSound}
use Rattle.trie_shape.proofs.Shows.{usage-forks}

-- ---- rows and their parts, as pairs have them

rows_at-take : (depth n : ℕ) (rows : List Lent) → rows_at depth (take n rows) ≡ take n (rows_at depth rows)
rows_at-take depth zero rows = refl
rows_at-take depth (suc n) [] = refl
rows_at-take depth (suc n) (row ∷ rows) = ap (λ (rs : List Row). row_at depth row ∷ rs) (rows_at-take depth n rows)

rows_at-drop : (depth n : ℕ) (rows : List Lent) → rows_at depth (drop n rows) ≡ drop n (rows_at depth rows)
rows_at-drop depth zero rows = refl
rows_at-drop depth (suc n) [] = refl
rows_at-drop depth (suc n) (row ∷ rows) = rows_at-drop depth n rows

drop_more : (p : List ℕ) (n : ℕ) → drop 1 (drop n p) ≡ drop (n + 1) p
drop_more [] zero = refl
drop_more [] (suc n) = let one : suc n + 1 ≡ suc (n + 1) = omega arith in sym (ap (λ k. drop k []) one)
drop_more (x ∷ p) zero = refl
drop_more (x ∷ p) (suc n) = let one : suc n + 1 ≡ suc (n + 1) = omega arith in drop_more p n ∙ sym (ap (λ k. drop k (x ∷ p)) one)

tails-rows_at : (depth : ℕ) (rows : List Lent) → tails (rows_at depth rows) ≡ rows_at (depth + 1) rows
tails-rows_at depth [] = refl
tails-rows_at depth (row ∷ rows) = ap₂ (λ (p : List ℕ) (rs : List Row). (p, row.1.now) ∷ rs) (drop_more (nibbles row.0.now) depth) (tails-rows_at depth rows)

pub longer : (p : List ℕ) (n x : ℕ) → StartsFrom x (drop n p) → n < length p
longer [] zero x h = absurd h
longer [] (suc n) x h = absurd h
longer (y ∷ p) zero x h = omega arith
longer (y ∷ p) (suc n) x h = let further = longer p n x h in omega arith

deeper : (depth x : ℕ) (rows : List Lent) → AllFrom x (rows_at depth rows) → AllByRecursion (IsRowAt depth) rows → AllByRecursion (IsRowAt (depth + 1)) rows
deeper depth x [] h each = tt
deeper depth x (row ∷ rows) h each =
    let long = longer (nibbles row.0.now) depth x h.0 in
    (record { deep = omega arith; short = each.0.short; nibbles = each.0.nibbles; value = each.0.value }, deeper depth x rows h.1 each.1)

-- ---- one nibble's run

module _ (x depth : ℕ) (whole rest : List Lent) (left : IsLeft x depth whole rest) where
  run : ℕ
  run = run_of x (rows_at depth rest)

  rising_rest : RisingRows (rows_at depth rest)
  rising_rest = rising (rows_at depth rest) left.rows.rises

  run_below : rows_at (depth + 1) (take run rest) ≡ below (x ∷ []) (rows_at depth whole)
  unfolding run
  run_below =
      sym (tails-rows_at depth (take run rest)) ∙ ap tails (rows_at-take depth run rest)
      ∙ sym (below-run x (rows_at depth rest) rising_rest left.from) ∙ sym (left.below x (omega arith))

  run_rows : AreRowsAt (depth + 1) (take run rest)
  unfolding run
  run_rows = record {
    rises = subst Rises (below-run x (rows_at depth rest) rising_rest left.from ∙ ap tails (sym (rows_at-take depth run rest)) ∙ tails-rows_at depth (take run rest)) (rises (below (x ∷ []) (rows_at depth rest)) (rising-below (x ∷ []) (rows_at depth rest) rising_rest));
    each = AllByRecursion-take (IsRowAt (depth + 1)) run rest (deeper depth x rest left.from left.rows.each);
  }

  run_left : IsLeft (x + 1) depth whole (drop run rest)
  unfolding run
  run_left =
      let as_drop = rows_at-drop depth run rest in
      let next : suc x ≡ x + 1 = omega arith in
      record {
        rows = record { rises = subst Rises (sym as_drop) (rises (drop run (rows_at depth rest)) (rising-drop run (rows_at depth rest) rising_rest)); each = AllByRecursion-drop (IsRowAt depth) run rest left.rows.each };
        from = subst (λ (rs : List Row). AllFrom (x + 1) rs) (sym as_drop) (subst (λ y. AllFrom y (drop run (rows_at depth rest))) next (after-run x (rows_at depth rest) rising_rest left.from));
        below = λ y h. left.below y (omega arith) ∙ below-after x y (rows_at depth rest) (omega arith) ∙ ap (below (y ∷ [])) (sym as_drop);
      }

-- ---- the children so far

-- the digest by which the branch of some rows names the child at a nibble, and the usage of that child
abbrev name_at : List Row → ℕ → Option (List ℕ)
name_at rows x = name_of (child_of rows x) (text (child_of rows x))

abbrev used_at : List Row → ℕ → ℕ
used_at rows x = usage (child_of rows x)

pub record IsGathered (depth : ℕ) (whole rest : List Lent) (nibble : ℕ) (kids : List (Option Digest)) (kids_usage : ℕ) : Type 0 where
  pub left : IsLeft nibble depth whole rest
  pub sixteen : length kids ≡ 16
  pub named : (y : ℕ) → y < nibble → children_in kids y ≡ name_at (rows_at depth whole) y
  pub used : kids_usage ≡ sum_below (used_at (rows_at depth whole)) nibble

sum_below-none : (f : ℕ → ℕ) → sum_below f 0 ≡ 0
unfolding sum_below
sum_below-none f = refl

pub gathered-none : (depth : ℕ) (whole rest : List Lent) (kids : List (Option Digest)) → IsLeft 0 depth whole rest → length kids ≡ 16 → IsGathered depth whole rest 0 kids 0
gathered-none depth whole rest kids left sixteen = record { left = left; sixteen = sixteen; named = λ y h. absurd (omega arith); used = sym (sum_below-none _) }

gathered-more : (depth : ℕ) (whole rest : List Lent) (x : ℕ) (kids : List (Option Digest)) (kids_usage : ℕ) → IsGathered depth whole rest x kids kids_usage → (name : Option Digest) (used : ℕ) → x < 16 → IsName (name, used) (child_of (rows_at depth whole) x)
    → IsGathered depth whole (drop (run_of x (rows_at depth rest)) rest) (x + 1) (set kids x name) (kids_usage + used)
unfolding run
gathered-more depth whole rest x kids kids_usage so_far name used small is =
    let inside : x < length kids = let s = so_far.sixteen in omega arith in
    record {
      left = run_left x depth whole rest so_far.left;
      sixteen = length-set kids x name ∙ so_far.sixteen;
      named = λ y h. elim (cases_lt y x) [
        | inl l ↦ (let other : y ≢ x = omega arith in ap (option_map (λ d. d.0)) (get_or-set_other kids x y name None other) ∙ so_far.named y l)
        | inr g ↦ (let same : x ≡ y = omega arith in
            subst (λ k. children_in (set kids x name) k ≡ name_at (rows_at depth whole) k) same (ap (option_map (λ d. d.0)) (get_or-set_same kids x name None inside) ∙ is.digest))
      ];
      used = ap₂ (λ (a b : ℕ). a + b) so_far.used is.usage ∙ sym (sum_below-more (used_at (rows_at depth whole)) x);
    }

-- ---- the branch

pub length-rows_at : (depth : ℕ) (rows : List Lent) → length (rows_at depth rows) ≡ length rows
length-rows_at depth rows = length-map rows (row_at depth)

-- the usages of the children so far, and of the next, fit
usage-so_far : (rows : List Row) (x : ℕ) → DoFork rows → x < 16 → usage (tree_of rows) < 2 ^ 64 → sum_below (used_at rows) x + used_at rows x < 2 ^ 64
usage-so_far rows x fork small fits =
    let whole = usage-forks rows fork in
    let part = sum_below-part (used_at rows) (x + 1) 16 (omega arith) in
    let more = sum_below-more (used_at rows) x in
    omega arith

drop-shorter : (p : List ℕ) (n : ℕ) → length (drop n p) ≤ length p
drop-shorter p zero = omega arith
drop-shorter [] (suc n) = omega arith
drop-shorter (x ∷ p) (suc n) = let h = drop-shorter p n in omega arith

short_at : (depth : ℕ) (rows : List Lent) → AllByRecursion (IsRowAt depth) rows → AllByRecursion HasShortPath (rows_at depth rows)
short_at depth [] h = tt
short_at depth (row ∷ rows) h = (let a = drop-shorter (nibbles row.0.now) depth in let b = h.0.short in omega arith, short_at depth rows h.1)

values_at : (depth : ℕ) (rows : List Lent) → AllByRecursion (IsRowAt depth) rows → ShortValues (rows_at depth rows)
values_at depth [] h = tt
values_at depth (row ∷ rows) h = (h.0.value, values_at depth rows h.1)

nibbles_at : (depth : ℕ) (rows : List Lent) → AllByRecursion (IsRowAt depth) rows → Small (rows_at depth rows)
nibbles_at depth [] h = tt
nibbles_at depth (row ∷ rows) h = (AllByRecursion-drop (λ nibble. nibble < 16) depth (nibbles row.0.now) h.0.nibbles, nibbles_at depth rows h.1)

pub sound-rows_at : (depth : ℕ) (rows : List Lent) → AreRowsAt depth rows → AreSound (rows_at depth rows)
sound-rows_at depth rows h = record { rise = rising (rows_at depth rows) h.rises; nibbles = nibbles_at depth rows h.each; paths = short_at depth rows h.each; values = values_at depth rows h.each }

-- ---- a turn of the loop, where the rows were split behind the run

module _ (depth : ℕ) (whole rest : List Lent) (x : ℕ) (kids : List (Option Digest)) (kids_usage : ℕ) (so_far : IsGathered depth whole rest x kids kids_usage)
    (front back : List Lent) (n : ℕ) (is : n ≡ run_of x (rows_at depth rest)) (front_is : front ≡ take n rest) (back_is : back ≡ drop n rest) where
  front_run : front ≡ take (run_of x (rows_at depth rest)) rest
  front_run = front_is ∙ ap (λ k. take k rest) is

  pub turn-rows : AreRowsAt (depth + 1) front
  unfolding run
  turn-rows = subst (AreRowsAt (depth + 1)) (sym front_run) (run_rows x depth whole rest so_far.left)

  turn-child : tree_of (rows_at (depth + 1) front) ≡ child_of (rows_at depth whole) x
  unfolding run
  turn-child = ap (λ rs. tree_of (rows_at (depth + 1) rs)) front_run ∙ ap tree_of (run_below x depth whole rest so_far.left)

  turn-sum : DoFork (rows_at depth whole) → x < 16 → usage (tree_of (rows_at depth whole)) < 2 ^ 64 → kids_usage + usage (tree_of (rows_at (depth + 1) front)) < 2 ^ 64
  turn-sum fork small fits =
      let both = usage-so_far (rows_at depth whole) x fork small fits in
      let here = ap usage turn-child in
      let before = so_far.used in
      omega arith

  pub turn-fits : DoFork (rows_at depth whole) → x < 16 → usage (tree_of (rows_at depth whole)) < 2 ^ 64 → usage (tree_of (rows_at (depth + 1) front)) < 2 ^ 64
  turn-fits fork small fits = let both = turn-sum fork small fits in omega arith

  pub turn-adds : DoFork (rows_at depth whole) → x < 16 → usage (tree_of (rows_at depth whole)) < 2 ^ 64 → (name : Option Digest × ℕ) → IsName name (tree_of (rows_at (depth + 1) front)) → kids_usage + name.1 < 2 ^ 64
  turn-adds fork small fits name named = let both = turn-sum fork small fits in let same = named.usage in omega arith

  pub turn-more : x < 16 → (name : Option Digest × ℕ) → IsName name (tree_of (rows_at (depth + 1) front)) → IsGathered depth whole back (x + 1) (set kids x name.0) (kids_usage + name.1)
  turn-more small name named =
      subst (λ (rs : List Lent). IsGathered depth whole rs (x + 1) (set kids x name.0) (kids_usage + name.1)) (sym (back_is ∙ ap (λ k. drop k rest) is))
      (gathered-more depth whole rest x kids kids_usage so_far name.0 name.1 small (subst (IsName name) turn-child named))

-- ---- after the last turn

module _ (depth : ℕ) (whole rest : List Lent) (x : ℕ) (kids : List (Option Digest)) (kids_usage : ℕ) (done : x ≡ 16) (all : IsGathered depth whole rest x kids kids_usage) (fork : DoFork (rows_at depth whole)) where
  pub end-branch : (value : Option ValueOfRecord) → value ≡ option_map value_ref (ends_here (rows_at depth whole)) → IsBranchOf (rows_at depth whole) value (children_in kids) kids_usage
  end-branch value ends = record {
    fork = fork;
    ends = ends;
    children = record { named = λ y h. all.named y (omega arith); together = all.used ∙ ap (sum_below (used_at (rows_at depth whole))) done };
  }

-- several rows whose paths share nothing
pub forks : (depth : ℕ) (rows : List Lent) → prefix_of (rows_at depth rows) ≡ [] → 2 ≤ length rows → DoFork (rows_at depth rows)
forks depth rows apart two = record { several = let long = length-rows_at depth rows in omega arith; apart = apart }
