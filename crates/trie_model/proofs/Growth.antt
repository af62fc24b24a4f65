-- Rows that share a prefix, and rows that fork: what their tries are, made from those of their parts.
use Rattle.std.proofs.Common.{◌≡◌, ◌≢◌, ℕ, zero, suc, ◌<◌, ◌≤◌, ◌==◌, true, false, List, [], ◌∷◌, ◌++◌, Option, None, Some, refl, sym, ◌∙◌, ap, ap₂, subst, inl, inr, ◌⊎◌, arith, append-nil, append_assoc, nat_cmp, Less, Equal, Greater}
use Rattle.std.specs.List.{AllByRecursion}
use Rattle.std.specs.Ordering.{ordering_then}
use Rattle.std.specs.Cmp.Lexicographic.{slice_cmp}
use Rattle.std.proofs.lemmas.Bool.{cases_lt, cases_eq}
use Rattle.std.proofs.lemmas.Bool.Decides.{nat_tests}
use mathlib.Core.Path.{fun_ext}
use Rattle.byte_model.specs.Below.{joined_below}
use Rattle.byte_model.proofs.Digits.{nat_cmp-greater, nat_cmp-itself}
use Rattle.trie_model.specs.State.{Row}
use Rattle.trie_model.specs.Tree.{Tree, nothing, leaf, branch, extension, rest_behind, below, ends_here, common, common_prefix, tree_of}
use Rattle.trie_model.specs.Grown.{grown, here, spread}
use Rattle.trie_model.proofs.Rests.{same_nibble, under, below-append, below-under, below-rows_append, under-below, AllHavePrefix}
use Rattle.trie_model.proofs.Trees.{tree_of-nil, tree_of-one, tree_of-forks, tree_of-shares}
use Rattle.trie_model.proofs.Order.{Before, RisingRows}

-- ---- a prefix before all paths

pub under-nil : (rows : List Row) → under [] rows ≡ rows
under-nil [] = refl
under-nil (row ∷ rows) = ap (λ (rs : List Row). row ∷ rs) (under-nil rows)

-- two paths with a prefix put before them share the prefix and what they shared
pub common-prefix : (prefix p q : List ℕ) → common (prefix ++ p) (prefix ++ q) ≡ prefix ++ common p q
unfolding common
common-prefix [] p q = refl
common-prefix (x ∷ prefix) p q = rw (same_nibble x) (ap (λ (r : List ℕ). x ∷ r) (common-prefix prefix p q))

-- and so do rows
pub common_prefix-under : (prefix : List ℕ) (row : Row) (rows : List Row) → common_prefix (prefix ++ row.0, row.1) (under prefix rows) ≡ prefix ++ common_prefix row rows
unfolding common_prefix
common_prefix-under prefix row [] = refl
common_prefix-under prefix row (next ∷ rows) = ap (common (prefix ++ row.0)) (common_prefix-under prefix next rows) ∙ common-prefix prefix row.0 (common_prefix next rows)

-- the trie of rows with a prefix put before each
pub tree_of-under : (prefix : List ℕ) (rows : List Row) → tree_of (under prefix rows) ≡ grown prefix (tree_of rows)
unfolding grown
tree_of-under prefix [] = tree_of-nil ∙ ap (grown prefix) (sym tree_of-nil)
tree_of-under prefix (row ∷ []) = tree_of-one (prefix ++ row.0, row.1) ∙ ap (grown prefix) (sym (tree_of-one row))
tree_of-under prefix (row ∷ next ∷ rows) = go prefix (common_prefix row (next ∷ rows)) refl
  where
    all : List Row
    all = row ∷ next ∷ rows

    shared : (f : List ℕ) → common_prefix (f ++ row.0, row.1) (under f (next ∷ rows)) ≡ f ++ common_prefix row (next ∷ rows)
    shared f = common_prefix-under f row (next ∷ rows)

    go : (f c : List ℕ) → common_prefix row (next ∷ rows) ≡ c → tree_of (under f all) ≡ grown f (tree_of all)
    go [] [] e = ap tree_of (under-nil all) ∙ tree_of-forks row next rows e ∙ ap (grown []) (sym (tree_of-forks row next rows e))
    go (x ∷ f) [] e =
        let long : common_prefix (x ∷ f ++ row.0, row.1) (under (x ∷ f) (next ∷ rows)) ≡ x ∷ f = shared (x ∷ f) ∙ ap (λ (c : List ℕ). x ∷ f ++ c) e ∙ append-nil (x ∷ f) in
        tree_of-shares (x ∷ f ++ row.0, row.1) (x ∷ f ++ next.0, next.1) (under (x ∷ f) rows) x f long
        ∙ ap (λ (rs : List Row). extension (x ∷ f) (tree_of rs)) (below-under (x ∷ f) all)
        ∙ ap (extension (x ∷ f)) (tree_of-forks row next rows e)
        ∙ ap (grown (x ∷ f)) (sym (tree_of-forks row next rows e))
    go [] (y ∷ c) e = ap tree_of (under-nil all) ∙ tree_of-shares row next rows y c e ∙ ap (grown []) (sym (tree_of-shares row next rows y c e))
    go (x ∷ f) (y ∷ c) e =
        tree_of-shares (x ∷ f ++ row.0, row.1) (x ∷ f ++ next.0, next.1) (under (x ∷ f) rows) x (f ++ y ∷ c) (shared (x ∷ f) ∙ ap (λ (p : List ℕ). x ∷ f ++ p) e)
        ∙ ap (λ (rs : List Row). extension (x ∷ f ++ y ∷ c) (tree_of rs)) (below-append (x ∷ f) (y ∷ c) (under (x ∷ f) all) ∙ ap (below (y ∷ c)) (below-under (x ∷ f) all))
        ∙ ap (grown (x ∷ f)) (sym (tree_of-shares row next rows y c e))

-- growing twice
pub grown-grown : (p q : List ℕ) (tree : Tree) → grown p (grown q tree) ≡ grown (p ++ q) tree
unfolding grown
grown-grown p q nothing = refl
grown-grown p q (leaf path value) = ap (λ (all : List ℕ). leaf all value) (sym (append_assoc p q path))
grown-grown [] [] (branch value kids) = refl
grown-grown (x ∷ p) [] (branch value kids) = ap (λ (all : List ℕ). extension (x ∷ all) (branch value kids)) (sym (append-nil p))
grown-grown [] (y ∷ q) (branch value kids) = refl
grown-grown (x ∷ p) (y ∷ q) (branch value kids) = refl
grown-grown p q (extension path child) = ap (λ (all : List ℕ). extension all child) (sym (append_assoc p q path))

-- The trie of rows that all have a prefix is that of the rows below it, grown by it.
pub tree_of-prefix : (prefix : List ℕ) (rows : List Row) → AllHavePrefix prefix rows → tree_of rows ≡ grown prefix (tree_of (below prefix rows))
tree_of-prefix prefix rows h = ap tree_of (sym (under-below prefix rows h)) ∙ tree_of-under prefix (below prefix rows)

-- ---- rows by nibbles

pub below-under_other : (x y : ℕ) (rows : List Row) → x ≢ y → below (x ∷ []) (under (y ∷ []) rows) ≡ []
unfolding below rest_behind
below-under_other x y [] apart = refl
below-under_other x y (row ∷ rows) apart =
    let test : (x == y) ≡ false = grind (arith, nat_tests) in
    rw test (below-under_other x y rows apart)

ends_here-append : (rows others : List Row) → ends_here rows ≡ None → ends_here (rows ++ others) ≡ ends_here others
unfolding ends_here
ends_here-append [] others e = refl
ends_here-append (([], value) ∷ rows) others e = cc
ends_here-append ((x ∷ path, value) ∷ rows) others e = ends_here-append rows others e

ends_here-under : (x : ℕ) (rows : List Row) → ends_here (under (x ∷ []) rows) ≡ None
unfolding ends_here
ends_here-under x [] = refl
ends_here-under x (row ∷ rows) = ends_here-under x rows

module _ (kids : ℕ → List Row) where
  pub ends_here-spread : (n : ℕ) → ends_here (spread kids n) ≡ None
  unfolding joined_below ends_here
  ends_here-spread zero = refl
  ends_here-spread (suc n) = ends_here-append (spread kids n) (under (n ∷ []) (kids n)) (ends_here-spread n) ∙ ends_here-under n (kids n)

  pub below-spread_past : (x n : ℕ) → n ≤ x → below (x ∷ []) (spread kids n) ≡ []
  unfolding joined_below below
  below-spread_past x zero h = refl
  below-spread_past x (suc n) h =
      below-rows_append (x ∷ []) (spread kids n) (under (n ∷ []) (kids n))
      ∙ ap₂ (λ (a b : List Row). a ++ b) (below-spread_past x n (omega arith)) (below-under_other x n (kids n) (omega arith))

  pub below-spread : (x n : ℕ) → x < n → below (x ∷ []) (spread kids n) ≡ kids x
  unfolding joined_below
  below-spread x zero h = absurd (omega arith)
  below-spread x (suc n) h =
      below-rows_append (x ∷ []) (spread kids n) (under (n ∷ []) (kids n))
      ∙ elim (cases_lt x n) [
        | inl l ↦ ap₂ (λ (a b : List Row). a ++ b) (below-spread x n l) (below-under_other x n (kids n) (omega arith)) ∙ append-nil (kids x)
        | inr r ↦
            let same : n ≡ x = omega arith in
            ap (λ (a : List Row). a ++ below (x ∷ []) (under (n ∷ []) (kids n))) (below-spread_past x n r)
            ∙ subst (λ y. below (y ∷ []) (under (n ∷ []) (kids n)) ≡ kids y) same (below-under (n ∷ []) (kids n))
      ]

  -- below a nibble of rows that are spread, and the one that ends among them
  pub below-here_spread : (value : Option (List ℕ)) (x : ℕ) → x < 16 → below (x ∷ []) (here value ++ spread kids 16) ≡ kids x
  unfolding below rest_behind
  below-here_spread None x h = below-spread x 16 h
  below-here_spread (Some value) x h = below-spread x 16 h

  pub below-here_spread_past : (value : Option (List ℕ)) (x : ℕ) → 16 ≤ x → below (x ∷ []) (here value ++ spread kids 16) ≡ []
  unfolding below rest_behind
  below-here_spread_past None x h = below-spread_past x 16 h
  below-here_spread_past (Some value) x h = below-spread_past x 16 h

  pub ends_here-here_spread : (value : Option (List ℕ)) → ends_here (here value ++ spread kids 16) ≡ value
  unfolding ends_here
  ends_here-here_spread None = ends_here-spread 16
  ends_here-here_spread (Some value) = refl

-- ---- the common prefix of rising rows

-- the last of some rows
abbrev pub last_row : Row → List Row → Row
last_row row [] = row
last_row row (next ∷ rows) = last_row next rows

-- a path stands before another, or is the same
abbrev pub NotAfter : List ℕ → List ℕ → Type 0
NotAfter p q = slice_cmp nat_cmp p q ≢ Greater

pub common-itself : (p : List ℕ) → common p p ≡ p
unfolding common
common-itself [] = refl
common-itself (x ∷ p) = rw (same_nibble x) (ap (λ (r : List ℕ). x ∷ r) (common-itself p))

pub slice_cmp-itself : (p : List ℕ) → slice_cmp nat_cmp p p ≡ Equal
slice_cmp-itself [] = refl
slice_cmp-itself (x ∷ p) = ap (λ o. ordering_then o (slice_cmp nat_cmp p p)) (nat_cmp-itself x) ∙ slice_cmp-itself p

pub not_after_before : (p q : List ℕ) → Before p q → NotAfter p q
not_after_before p q h e = different (sym h ∙ e)
  where
    different : Less ≡ Greater → ⊥
    different e = cc

pub first_not_after : (x y : ℕ) (p q : List ℕ) → NotAfter (x ∷ p) (y ∷ q) → x ≤ y
first_not_after x y p q h =
    elim (cases_lt y x) [
      | inl l ↦ absurd (h (ap (λ o. ordering_then o (slice_cmp nat_cmp p q)) (nat_cmp-greater x y l)))
      | inr le ↦ le
    ]

pub rest_not_after : (x y : ℕ) (p q : List ℕ) → x ≡ y → NotAfter (x ∷ p) (y ∷ q) → NotAfter p q
rest_not_after x y p q same h e = h (ap (λ (z : ℕ). ordering_then (nat_cmp x z) (slice_cmp nat_cmp p q)) (sym same) ∙ ap (λ o. ordering_then o (slice_cmp nat_cmp p q)) (nat_cmp-itself x) ∙ e)

-- a path between two others has the prefix that they share
pub common-between : (p q r : List ℕ) → NotAfter p q → NotAfter q r → common p (common q r) ≡ common p r
unfolding common
common-between [] q r h k = refl
common-between (x ∷ p) [] r h k = absurd (h refl)
common-between (x ∷ p) (y ∷ q) [] h k = absurd (k refl)
common-between (x ∷ p) (y ∷ q) (z ∷ r) h k =
    let low = first_not_after x y p q h in
    let high = first_not_after y z q r k in
    elim (cases_eq y z) [
      | inl same ↦
          let second : (y == z) ≡ true = grind (arith, nat_tests) in
          rw second (elim (cases_eq x y) [
            | inl alike ↦
                let first : (x == y) ≡ true = grind (arith, nat_tests) in
                let outer : (x == z) ≡ true = grind (arith, nat_tests) in
                rw (first, outer) (ap (λ (s : List ℕ). x ∷ s) (common-between p q r (rest_not_after x y p q alike h) (rest_not_after y z q r same k)))
            | inr apart ↦
                let first : (x == y) ≡ false = grind (arith, nat_tests) in
                let outer : (x == z) ≡ false = grind (arith, nat_tests) in
                rw (first, outer) refl
          ])
      | inr apart ↦
          let second : (y == z) ≡ false = grind (arith, nat_tests) in
          let outer : (x == z) ≡ false = grind (arith, nat_tests) in
          rw (second, outer) refl
    ]

pub not_after_itself : (p : List ℕ) → NotAfter p p
not_after_itself p e = different (sym (slice_cmp-itself p) ∙ e)
  where
    different : Equal ≡ Greater → ⊥
    different e = cc

pub all_last : (P : Row → Type 0) (row : Row) (rows : List Row) → AllByRecursion P (row ∷ rows) → P (last_row row rows)
all_last P row [] h = h.0
all_last P row (next ∷ rows) h = all_last P next rows h.1

pub not_after_last : (row : Row) (rows : List Row) → RisingRows (row ∷ rows) → NotAfter row.0 (last_row row rows).0
not_after_last row [] h = not_after_itself row.0
not_after_last row (next ∷ rows) h = not_after_before row.0 (last_row next rows).0 (all_last (λ later. Before row.0 later.0) next rows h.0)

-- The common prefix of rising rows is that of the first and the last.
pub common_prefix-rising : (row : Row) (rows : List Row) → RisingRows (row ∷ rows) → common_prefix row rows ≡ common row.0 (last_row row rows).0
unfolding common_prefix
common_prefix-rising row [] h = sym (common-itself row.0)
common_prefix-rising row (next ∷ rows) h =
    ap (common row.0) (common_prefix-rising next rows h.1)
    ∙ common-between row.0 next.0 (last_row next rows).0 (not_after_before row.0 next.0 h.0.0) (not_after_last next rows h.1)

-- ---- rows that fork

pub common_prefix-ends : (row : Row) (rows : List Row) → row.0 ≡ [] → common_prefix row rows ≡ []
unfolding common_prefix common
common_prefix-ends row [] e = e
common_prefix-ends row (next ∷ rows) e = ap (λ (p : List ℕ). common p (common_prefix next rows)) e

-- The trie of rows that fork, from those of their nibbles.
pub tree_of-spread : (kids : ℕ → List Row) (value : Option (List ℕ)) (row next : Row) (rows : List Row) → ((x : ℕ) → 16 ≤ x → kids x ≡ []) → here value ++ spread kids 16 ≡ row ∷ next ∷ rows → common_prefix row (next ∷ rows) ≡ [] → tree_of (here value ++ spread kids 16) ≡ branch value (λ x. tree_of (kids x))
tree_of-spread kids value row next rows none same forks =
    ap tree_of same
    ∙ tree_of-forks row next rows forks
    ∙ ap (λ rs. branch (ends_here rs) (λ x. tree_of (below (x ∷ []) rs))) (sym same)
    ∙ ap₂ branch (ends_here-here_spread kids value) (fun_ext (λ x. ap tree_of (each x (cases_lt x 16))))
  where
    each : (x : ℕ) → (x < 16) ⊎ (16 ≤ x) → below (x ∷ []) (here value ++ spread kids 16) ≡ kids x
    each x (inl l) = below-here_spread kids value x l
    each x (inr r) = below-here_spread_past kids value x r ∙ sym (none x r)
