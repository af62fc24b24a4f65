-- Every pair stands at exactly one place: the values that are held at the places, in order, are the rows.
use Rattle.std.proofs.Common.{◌≡◌, ◌≢◌, ℕ, zero, suc, ◌<◌, ◌≤◌, ◌==◌, false, if◌then◌else◌, List, [], ◌∷◌, ◌++◌, Option, None, Some, option_map, filter_map, refl, sym, ◌∙◌, ap, ap₂, subst, arith, append_assoc, nat_cmp, Less, Greater, ◌⊎◌, inl, inr}
use Rattle.std.specs.List.{AllByRecursion, cons_option}
use Rattle.std.proofs.lemmas.Bool.{cases_lt}
use Rattle.std.proofs.lemmas.Bool.Decides.{nat_tests}
use Rattle.std.proofs.lemmas.List.Elements.{filter_map-append}
use Rattle.std.specs.Ordering.{ordering_then}
use Rattle.std.specs.Cmp.Lexicographic.{slice_cmp}
use Rattle.std.specs.FinMap.{entries}
use Rattle.byte_model.proofs.Lists.{AllByRecursion-weaker}
use Rattle.byte_model.proofs.Digits.{nat_cmp-greater, AreNibbles-nibbles, AreNibbles-rest}
use Rattle.trie_model.proofs.Worked.{Pair, rows_of_pairs}
use Rattle.byte_model.specs.Below.{joined_below}
use Rattle.byte_model.specs.Nibbles.{AreNibbles}
use Rattle.trie_model.specs.State.{State, Row, IsPair, IsState, rows_of}
use Rattle.trie_model.specs.Tree.{Tree, nothing, leaf, branch, extension, rest_behind, below, ends_here, tree_of}
pub use Rattle.trie_model.specs.Grown.{here}
use Rattle.trie_model.specs.Texts.{behind, places}
use Rattle.trie_model.specs.Root.{subtree_at, places_of}
use Rattle.trie_model.specs.Laws.{held_by, held_at}
use Rattle.byte_model.proofs.Below.{joined_below-agree}
use Rattle.trie_model.proofs.Rests.{below-nil, below-append, below-none, under, under-below, AllHavePrefix, common_prefix-all, same_nibble, prefix_and_rest}
use Rattle.trie_model.proofs.Trees.{tree_of-nil, tree_of-one, tree_of-forks, tree_of-shares, by_cases}
use Rattle.trie_model.proofs.Costs.{subtree_at-root}
use Rattle.trie_model.proofs.Order.{Before, RisingRows, rising-below, rising-rows_of, all-below}

-- a row with a prefix put before its path
abbrev pub prefixed : List ℕ → Row → Row
prefixed prefix row = (prefix ++ row.0, row.1)

-- the rows that a tree holds, in the order of its places
unfoldable pub held : Tree → List Row
held nothing = []
held (leaf path value) = (path, value) ∷ []
held (branch value kids) = here value ++ joined_below (λ x. under (x ∷ []) (held (kids x))) 16
held (extension path child) = under path (held child)

-- ---- what is held at the places of a trie is what the trie holds

-- the row whose value stands at a place of some rows
abbrev pub held_below : List Row → List ℕ → Option Row
held_below rows place = option_map (prefixed place) (held_by (tree_of (below place rows)))

under-append : (prefix : List ℕ) (rows others : List Row) → under prefix (rows ++ others) ≡ under prefix rows ++ under prefix others
under-append prefix [] others = refl
under-append prefix (row ∷ rows) others = ap (λ (rs : List Row). (prefix ++ row.0, row.1) ∷ rs) (under-append prefix rows others)

held_below-append : (prefix place : List ℕ) (rows : List Row) → held_below rows (prefix ++ place) ≡ option_map (prefixed prefix) (held_below (below prefix rows) place)
held_below-append prefix place rows =
    ap (λ rs. option_map (prefixed (prefix ++ place)) (held_by (tree_of rs))) (below-append prefix place rows)
    ∙ go (held_by (tree_of (below place (below prefix rows))))
  where
    go : (o : Option Row) → option_map (prefixed (prefix ++ place)) o ≡ option_map (prefixed prefix) (option_map (prefixed place) o)
    go None = refl
    go (Some row) = ap (λ (path : List ℕ). let r : Row = (path, row.1) in Some r) (append_assoc prefix place row.0)

filter_map-behind : (prefix : List ℕ) (rows : List Row) (paths : List (List ℕ)) → filter_map (held_below rows) (behind prefix paths) ≡ under prefix (filter_map (held_below (below prefix rows)) paths)
filter_map-behind prefix rows [] = refl
filter_map-behind prefix rows (path ∷ paths) =
    ap₂ (λ (o : Option Row) (rs : List Row). cons_option o rs) (held_below-append prefix path rows) (filter_map-behind prefix rows paths)
    ∙ go (held_below (below prefix rows) path)
  where
    go : (o : Option Row) → cons_option (option_map (prefixed prefix) o) (under prefix (filter_map (held_below (below prefix rows)) paths)) ≡ under prefix (cons_option o (filter_map (held_below (below prefix rows)) paths))
    go None = refl
    go (Some row) = refl

filter_map-joined_below : {X Y : Type 0} (h : X → Option Y) (f : ℕ → List X) (n : ℕ) → filter_map h (joined_below f n) ≡ joined_below (λ x. filter_map h (f x)) n
unfolding joined_below
filter_map-joined_below h f zero = refl
filter_map-joined_below {Y = Y} h f (suc n) = filter_map-append h (joined_below f n) (f n) ∙ ap (λ (a : List Y). a ++ filter_map h (f n)) (filter_map-joined_below h f n)

abbrev Holds : List Row → Type 0
Holds rows = filter_map (held_below rows) (places (tree_of rows)) ≡ held (tree_of rows)

top_held : (rows : List Row) (tree : Tree) → tree_of rows ≡ tree → held_below rows [] ≡ held_by tree
top_held rows tree e = ap (λ rs. option_map (prefixed []) (held_by (tree_of rs))) (below-nil rows) ∙ go (held_by (tree_of rows)) ∙ ap held_by e
  where
    go : (o : Option Row) → option_map (prefixed []) o ≡ o
    go None = refl
    go (Some row) = refl

branch_holds : (rows : List Row) (value : Option (List ℕ)) → tree_of rows ≡ branch value (λ x. tree_of (below (x ∷ []) rows)) → ((x : ℕ) → Holds (below (x ∷ []) rows)) → Holds rows
unfolding places held held_by
branch_holds rows value e further =
    let kids : ℕ → Tree = λ x. tree_of (below (x ∷ []) rows) in
    let each : (x : ℕ) → x < 16 → filter_map (held_below rows) (behind (x ∷ []) (places (kids x))) ≡ under (x ∷ []) (held (kids x)) = λ x _. filter_map-behind (x ∷ []) rows (places (kids x)) ∙ ap (under (x ∷ [])) (further x) in
    subst (λ t. filter_map (held_below rows) (places t) ≡ held t) (sym e)
    (ap₂ (λ (o : Option Row) (rs : List Row). cons_option o rs) (top_held rows (branch value kids) e)
    (filter_map-joined_below (held_below rows) (λ x. behind (x ∷ []) (places (kids x))) 16 ∙ joined_below-agree _ _ 16 each)
    ∙ go value (joined_below (λ x. under (x ∷ []) (held (kids x))) 16))
  where
    go : (v : Option (List ℕ)) (rs : List Row) → cons_option (option_map (λ w. ([], w)) v) rs ≡ here v ++ rs
    go None rs = refl
    go (Some w) rs = refl

extension_holds : (rows : List Row) (prefix : List ℕ) → tree_of rows ≡ extension prefix (tree_of (below prefix rows)) → Holds (below prefix rows) → Holds rows
unfolding places held held_by
extension_holds rows prefix e further =
    let child = tree_of (below prefix rows) in
    subst (λ t. filter_map (held_below rows) (places t) ≡ held t) (sym e)
    (ap₂ (λ (o : Option Row) (rs : List Row). cons_option o rs) (top_held rows (extension prefix child) e)
    (filter_map-behind prefix rows (places child) ∙ ap (under prefix) further))

pub filter_map-places : (rows : List Row) → filter_map (held_below rows) (places (tree_of rows)) ≡ held (tree_of rows)
unfolding places held held_by
filter_map-places = by_cases Holds (record {
  none = subst (λ t. filter_map (held_below []) (places t) ≡ held t) (sym tree_of-nil) refl;
  one = λ row. subst (λ t. filter_map (held_below (row ∷ [])) (places t) ≡ held t) (sym (tree_of-one row)) (ap (λ (o : Option Row). cons_option o []) (top_held (row ∷ []) (leaf row.0 row.1) (tree_of-one row)));
  forks = λ row next rows e further. branch_holds (row ∷ next ∷ rows) _ (tree_of-forks row next rows e) further;
  shares = λ row next rows x prefix e further. extension_holds (row ∷ next ∷ rows) (x ∷ prefix) (tree_of-shares row next rows x prefix e) further;
})

-- ---- rising rows by their first nibbles

-- each path is not empty, and its first nibble is at least this
abbrev From : ℕ → List Row → Type 0
From least rows = AllByRecursion (λ row. (first : ℕ) × (rest : List ℕ) × (row.0 ≡ first ∷ rest) × (least ≤ first)) rows

ends_here-from : (least : ℕ) (rows : List Row) → From least rows → ends_here rows ≡ None
unfolding ends_here
ends_here-from least [] h = refl
ends_here-from least (row ∷ rows) h =
    ap (λ (path : List ℕ). ends_here ((path, row.1) ∷ rows)) h.0.2 ∙ ends_here-from least rows h.1

below-from : (x least : ℕ) (rows : List Row) → x < least → From least rows → below (x ∷ []) rows ≡ []
unfolding below rest_behind
below-from x least [] lower h = refl
below-from x least (row ∷ rows) lower h =
    let first : ℕ = h.0.0 in
    let bound : least ≤ first = h.0.3 in
    let test : (x == first) ≡ false = grind (arith, nat_tests) in
    ap (λ (path : List ℕ). cons_option (option_map (λ (rest : List ℕ). (rest, row.1)) (rest_behind (x ∷ []) path)) (below (x ∷ []) rows)) h.0.2
    ∙ ap (λ b. cons_option (option_map (λ (rest : List ℕ). (rest, row.1)) (if b then Some h.0.1 else None)) (below (x ∷ []) rows)) test
    ∙ below-from x least rows lower h.1

-- what comes after a path in order
not_before : Less ≡ Greater → ⊥
not_before e = cc

pub from_before : (x : ℕ) (path later : List ℕ) → Before (x ∷ path) later → (first : ℕ) × (rest : List ℕ) × (later ≡ first ∷ rest) × (x ≤ first)
from_before x path [] h = cc
from_before x path (y ∷ later) h = (y, later, refl, not_lower (cases_lt y x))
  where
    not_lower : (y < x) ⊎ (x ≤ y) → x ≤ y
    not_lower (inl l) = absurd (not_before (sym h ∙ ap (λ o. ordering_then o (slice_cmp nat_cmp path later)) (nat_cmp-greater x y l)))
    not_lower (inr le) = le

pub from_empty : (later : List ℕ) → Before [] later → (first : ℕ) × (rest : List ℕ) × (later ≡ first ∷ rest) × (0 ≤ first)
from_empty [] h = cc
from_empty (y ∷ later) h = (y, later, refl, omega arith)

joined_none : (f : ℕ → List Row) (n : ℕ) → ((x : ℕ) → x < n → f x ≡ []) → joined_below f n ≡ []
unfolding joined_below
joined_none f zero none = refl
joined_none f (suc n) none = ap₂ (λ (a b : List Row). a ++ b) (joined_none f n (λ x h. none x (omega arith))) (none n (omega arith))

-- the lists of a bound's numbers, where one more stands in prefix of the first that is not empty
joined_below-first : (f g : ℕ → List Row) (row : Row) (y n : ℕ) → y < n → ((x : ℕ) → x < y → f x ≡ []) → ((x : ℕ) → x ≢ y → g x ≡ f x) → g y ≡ row ∷ f y → joined_below g n ≡ row ∷ joined_below f n
unfolding joined_below
joined_below-first f g row y zero h none same first = absurd (omega arith)
joined_below-first f g row y (suc n) h none same first =
    elim (cases_lt y n) [
      | inl l ↦ ap₂ (λ (a b : List Row). a ++ b) (joined_below-first f g row y n l none same first) (same n (omega arith))
      | inr r ↦
          let last : y ≡ n = omega arith in
          let empty_f : joined_below f n ≡ [] = joined_none f n (λ x k. none x (omega arith)) in
          let empty_g : joined_below g n ≡ [] = joined_none g n (λ x k. same x (omega arith) ∙ none x (omega arith)) in
          ap (λ (a : List Row). a ++ g n) empty_g ∙ subst (λ m. g m ≡ row ∷ f m) last first ∙ ap (λ (a : List Row). row ∷ (a ++ f n)) (sym empty_f)
    ]

abbrev pub Small : List Row → Type 0
Small rows = AllByRecursion (λ row. AreNibbles row.0) rows

-- the rows by their first nibbles
abbrev pub by_nibble : List Row → ℕ → List Row
by_nibble rows x = under (x ∷ []) (below (x ∷ []) rows)

skips_top : (x : ℕ) (value : List ℕ) (rows : List Row) → by_nibble (([], value) ∷ rows) x ≡ by_nibble rows x
unfolding below rest_behind
skips_top x value rows = refl

without_top : (rows : List Row) → ends_here rows ≡ None → here (ends_here rows) ++ joined_below (by_nibble rows) 16 ≡ rows → joined_below (by_nibble rows) 16 ≡ rows
without_top rows none e = ap (λ o. here o ++ joined_below (by_nibble rows) 16) (sym none) ∙ e

other_nibble : (x y : ℕ) (p v : List ℕ) (rows : List Row) → x ≢ y → by_nibble ((y ∷ p, v) ∷ rows) x ≡ by_nibble rows x
unfolding below rest_behind
other_nibble x y p v rows apart =
    let test : (x == y) ≡ false = grind (arith, nat_tests) in
    rw test refl

this_nibble : (y : ℕ) (p v : List ℕ) (rows : List Row) → by_nibble ((y ∷ p, v) ∷ rows) y ≡ (y ∷ p, v) ∷ by_nibble rows y
unfolding below rest_behind
this_nibble y p v rows = rw (same_nibble y) refl

-- Rising rows are the one that ends here and then those behind each nibble.
pub rows_by_nibble : (rows : List Row) → RisingRows rows → Small rows → here (ends_here rows) ++ joined_below (by_nibble rows) 16 ≡ rows
unfolding ends_here
rows_by_nibble [] rising small = joined_none (by_nibble []) 16 (λ x h. ap (under (x ∷ [])) (below-none (x ∷ [])))
rows_by_nibble (([], value) ∷ rows) rising small =
    let later : From 0 rows = AllByRecursion-weaker _ _ (λ row b. from_empty row.0 b) rows rising.0 in
    let rest = without_top rows (ends_here-from 0 rows later) (rows_by_nibble rows rising.1 small.1) in
    ap (λ (rs : List Row). ([], value) ∷ rs) (joined_below-agree _ _ 16 (λ x h. skips_top x value rows) ∙ rest)
rows_by_nibble ((y ∷ p, value) ∷ rows) rising small =
    let later : From y rows = AllByRecursion-weaker _ _ (λ row b. from_before y p row.0 b) rows rising.0 in
    let none = ends_here-from y rows later in
    let rest = without_top rows none (rows_by_nibble rows rising.1 small.1) in
    ap (λ o. here o ++ joined_below (by_nibble ((y ∷ p, value) ∷ rows)) 16) none
    ∙ joined_below-first (by_nibble rows) (by_nibble ((y ∷ p, value) ∷ rows)) (y ∷ p, value) y 16 small.0.0 (λ x h. ap (under (x ∷ [])) (below-from x y rows h later)) (λ x apart. other_nibble x y p value rows apart) (this_nibble y p value rows)
    ∙ ap (λ (rs : List Row). (y ∷ p, value) ∷ rs) rest

-- ---- a trie holds its rows

pub small-below : (prefix : List ℕ) (rows : List Row) → Small rows → Small (below prefix rows)
small-below prefix rows small = all-below (λ row. AreNibbles row.0) (λ row. AreNibbles row.0) prefix (λ row rest e h. AreNibbles-rest prefix rest (subst AreNibbles (prefix_and_rest prefix row.0 rest e) h)) rows small

pub held-tree_of : (rows : List Row) → RisingRows rows → Small rows → held (tree_of rows) ≡ rows
unfolding held
held-tree_of = by_cases (λ rows. RisingRows rows → Small rows → held (tree_of rows) ≡ rows) (record {
  none = λ rising small. ap held tree_of-nil;
  one = λ row rising small. ap held (tree_of-one row);
  forks = λ row next rows e further rising small.
      let rs : List Row = row ∷ next ∷ rows in
      ap held (tree_of-forks row next rows e)
      ∙ ap (λ (held_rows : List Row). here (ends_here rs) ++ held_rows) (joined_below-agree _ (by_nibble rs) 16 (λ x h. ap (under (x ∷ [])) (further x (rising-below (x ∷ []) rs rising) (small-below (x ∷ []) rs small))))
      ∙ rows_by_nibble rs rising small;
  shares = λ row next rows x prefix e further rising small.
      let rs : List Row = row ∷ next ∷ rows in
      let all = subst (λ (f : List ℕ). AllHavePrefix f rs) e (common_prefix-all row (next ∷ rows)) in
      ap held (tree_of-shares row next rows x prefix e)
      ∙ ap (under (x ∷ prefix)) (further (rising-below (x ∷ prefix) rs rising) (small-below (x ∷ prefix) rs small))
      ∙ under-below (x ∷ prefix) rs all;
})

-- ---- of a state

pub small_pairs : (pairs : List Pair) → AllByRecursion IsPair pairs → Small (rows_of_pairs pairs)
small_pairs [] h = tt
small_pairs (pair ∷ pairs) h = (AreNibbles-nibbles pair.0 h.0.key, small_pairs pairs h.1)

pub small-rows_of : (state : State) → IsState state → Small (rows_of state)
unfolding rows_of
small-rows_of state is = small_pairs (entries state) is.pairs

pub held_at-places_of : (state : State) → IsState state → filter_map (held_at state) (places_of state) ≡ rows_of state
unfolding held_at subtree_at
held_at-places_of state is =
    let rows = rows_of state in
    ap (λ tree. filter_map (held_below rows) (places tree)) (subtree_at-root state)
    ∙ filter_map-places rows
    ∙ held-tree_of rows (rising-rows_of state) (small-rows_of state is)
