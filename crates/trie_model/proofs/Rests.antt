-- What lies below a path: rests of paths, and rows with their rests.
use Rattle.std.proofs.Common.{append_assoc, append-nil, ◌≢◌, ◌≡◌, ℕ, ◌==◌, true, false, List, [], ◌∷◌, ◌++◌, None, Some, option_map, option_and_then, ap₂, refl, sym, ◌∙◌, ap, arith, if◌then◌else◌}
use Rattle.std.specs.List.{cons_option}
use Rattle.std.proofs.lemmas.Bool.Decides.{nat_tests}
use Rattle.byte_model.proofs.Lists.{first_same, rest_same, AllByRecursion-weaker}
use Rattle.trie_model.specs.State.{Row}
pub use Rattle.trie_model.specs.Grown.{under, HasPrefix, AllHavePrefix}
use Rattle.trie_model.specs.Tree.{rest_behind, row_behind, below, common, common_prefix}

-- ---- tests on nibbles

pub same_nibble : (x : ℕ) → (x == x) ≡ true
same_nibble x = grind (arith, nat_tests)

pub equal_of_test : (x y : ℕ) → (x == y) ≡ true → x ≡ y
equal_of_test x y e = grind (arith, nat_tests)

-- ---- the rest of a path behind a prefix

-- behind two prefixes in a row
pub rest_behind-append : (p q path : List ℕ) → rest_behind (p ++ q) path ≡ option_and_then (rest_behind q) (rest_behind p path)
unfolding rest_behind
rest_behind-append [] q path = refl
rest_behind-append (x ∷ p) q [] = refl
rest_behind-append (x ∷ p) q (y ∷ path) =
    elim (x == y) as (λ b. (if b then rest_behind (p ++ q) path else None) ≡ option_and_then (rest_behind q) (if b then rest_behind p path else None)) [
      | true ↦ rest_behind-append p q path
      | false ↦ refl
    ]

-- a prefix that is there
pub rest_behind-prefix : (prefix rest : List ℕ) → rest_behind prefix (prefix ++ rest) ≡ Some rest
unfolding rest_behind
rest_behind-prefix [] rest = refl
rest_behind-prefix (x ∷ prefix) rest = rw (same_nibble x) (rest_behind-prefix prefix rest)

-- a path with a prefix is the prefix and the rest
pub prefix_and_rest : (prefix path rest : List ℕ) → rest_behind prefix path ≡ Some rest → path ≡ prefix ++ rest
unfolding rest_behind
prefix_and_rest [] path rest e = cc
prefix_and_rest (x ∷ prefix) [] rest e = cc
prefix_and_rest (x ∷ prefix) (y ∷ path) rest e =
    elim (x == y) as (λ b. (x == y) ≡ b → (if b then rest_behind prefix path else None) ≡ Some rest → y ∷ path ≡ x ∷ prefix ++ rest) [
      | true ↦ λ t h. ap₂ (λ (a : ℕ) (others : List ℕ). a ∷ others) (sym (equal_of_test x y t)) (prefix_and_rest prefix path rest h)
      | false ↦ λ t h. cc
    ] refl e

pub none_cons : (x : ℕ) (xs : List ℕ) → [] ≡ x ∷ xs → ⊥
none_cons x xs e = cc

-- ---- rows below a path

pub below-nil : (rows : List Row) → below [] rows ≡ rows
unfolding below rest_behind
below-nil [] = refl
below-nil (row ∷ rows) = ap (λ rest. row ∷ rest) (below-nil rows)

pub below-none : (prefix : List ℕ) → below prefix [] ≡ []
unfolding below
below-none prefix = refl

-- a step further down: below two prefixes in a row
pub below-append : (p q : List ℕ) (rows : List Row) → below (p ++ q) rows ≡ below q (below p rows)
unfolding below
below-append p q [] = refl
below-append p q (row ∷ rows) =
    ap (λ r. cons_option (option_map (λ rest. (rest, row.1)) r) (below (p ++ q) rows)) (rest_behind-append p q row.0)
    ∙ elim (rest_behind p row.0) as (λ r. cons_option (option_map (λ rest. (rest, row.1)) (option_and_then (rest_behind q) r)) (below (p ++ q) rows) ≡ below q (cons_option (option_map (λ rest. (rest, row.1)) r) (below p rows))) [
      | None ↦ below-append p q rows
      | Some rest ↦ ap (cons_option (row_behind q (rest, row.1))) (below-append p q rows)
    ]

pub below-rows_append : (prefix : List ℕ) (rows others : List Row) → below prefix (rows ++ others) ≡ below prefix rows ++ below prefix others
unfolding below
below-rows_append prefix [] others = refl
below-rows_append prefix (row ∷ rows) others =
    elim (rest_behind prefix row.0) as (λ r. cons_option (option_map (λ rest. (rest, row.1)) r) (below prefix (rows ++ others)) ≡ cons_option (option_map (λ rest. (rest, row.1)) r) (below prefix rows) ++ below prefix others) [
      | None ↦ below-rows_append prefix rows others
      | Some rest ↦ ap (λ rs. (rest, row.1) ∷ rs) (below-rows_append prefix rows others)
    ]

pub below-under : (prefix : List ℕ) (rows : List Row) → below prefix (under prefix rows) ≡ rows
unfolding below
below-under prefix [] = refl
below-under prefix (row ∷ rows) =
    rw (rest_behind-prefix prefix row.0) (ap (λ rs. row ∷ rs) (below-under prefix rows))

-- ---- prefixes

pub HasPrefix-HasPrefix : (prefix longer path : List ℕ) → HasPrefix prefix longer → HasPrefix longer path → HasPrefix prefix path
HasPrefix-HasPrefix prefix longer path h k = (h.0 ++ k.0, k.1 ∙ ap (λ (p : List ℕ). p ++ k.0) h.1 ∙ append_assoc prefix h.0 k.0)

-- a common prefix is one of both
pub common_left : (p q : List ℕ) → HasPrefix (common p q) p
unfolding common
common_left [] q = ([], refl)
common_left (x ∷ p) [] = (x ∷ p, refl)
common_left (x ∷ p) (y ∷ q) =
    let further = common_left p q in
    elim (x == y) as (λ b. HasPrefix (if b then x ∷ common p q else []) (x ∷ p)) [
      | true ↦ (further.0, ap (λ (r : List ℕ). x ∷ r) further.1)
      | false ↦ (x ∷ p, refl)
    ]

pub common_right : (p q : List ℕ) → HasPrefix (common p q) q
unfolding common
common_right [] q = (q, refl)
common_right (x ∷ p) [] = ([], refl)
common_right (x ∷ p) (y ∷ q) =
    let further = common_right p q in
    elim (x == y) as (λ b. (x == y) ≡ b → HasPrefix (if b then x ∷ common p q else []) (y ∷ q)) [
      | true ↦ λ t. (further.0, ap₂ (λ (a : ℕ) (r : List ℕ). a ∷ r) (sym (equal_of_test x y t)) further.1)
      | false ↦ λ t. (y ∷ q, refl)
    ] refl

-- the common prefix of rows is a prefix of each
pub common_prefix-all : (row : Row) (rows : List Row) → AllHavePrefix (common_prefix row rows) (row ∷ rows)
unfolding common_prefix
common_prefix-all row [] = (([], sym (append-nil row.0)), tt)
common_prefix-all row (next ∷ rows) =
    let further = common_prefix-all next rows in
    let shared = common_right row.0 (common_prefix next rows) in
    (common_left row.0 (common_prefix next rows), AllByRecursion-weaker _ _ (λ r h. HasPrefix-HasPrefix _ _ _ shared h) (next ∷ rows) further)

-- and any prefix of each is a prefix of it
pub common_longest : (prefix p q : List ℕ) → HasPrefix prefix p → HasPrefix prefix q → HasPrefix prefix (common p q)
unfolding common
common_longest [] p q h k = (common p q, refl)
common_longest (x ∷ prefix) [] q h k = absurd (none_cons x _ h.1)
common_longest (x ∷ prefix) (y ∷ p) [] h k = absurd (none_cons x _ k.1)
common_longest (x ∷ prefix) (y ∷ p) (z ∷ q) h k =
    let first : y ≡ x = first_same h.1 in
    let second : z ≡ x = first_same k.1 in
    let further = common_longest prefix p q (h.0, rest_same h.1) (k.0, rest_same k.1) in
    let test : (y == z) ≡ true = rw (first, second) (same_nibble x) in
    rw test (further.0, ap₂ (λ (a : ℕ) (r : List ℕ). a ∷ r) first further.1)

pub common_prefix-longest : (prefix : List ℕ) (row : Row) (rows : List Row) → AllHavePrefix prefix (row ∷ rows) → HasPrefix prefix (common_prefix row rows)
unfolding common_prefix
common_prefix-longest prefix row [] h = h.0
common_prefix-longest prefix row (next ∷ rows) h = common_longest prefix row.0 (common_prefix next rows) h.0 (common_prefix-longest prefix next rows h.1)

-- rows that all have a prefix are the rows below it, put under it
pub under-below : (prefix : List ℕ) (rows : List Row) → AllHavePrefix prefix rows → under prefix (below prefix rows) ≡ rows
unfolding below
under-below prefix [] h = refl
under-below prefix (row ∷ rows) h =
    let e : row.0 ≡ prefix ++ h.0.0 = h.0.1 in
    let rest : rest_behind prefix row.0 ≡ Some h.0.0 = ap (rest_behind prefix) e ∙ rest_behind-prefix prefix h.0.0 in
    rw rest (ap₂ (λ (r : Row) (others : List Row). r ∷ others) (λ i. (sym e i, row.1)) (under-below prefix rows h.1))

pub below-some : (prefix : List ℕ) (row : Row) (rows : List Row) → HasPrefix prefix row.0 → below prefix (row ∷ rows) ≢ []
unfolding below
below-some prefix row rows h =
    let rest : rest_behind prefix row.0 ≡ Some h.0 = ap (rest_behind prefix) h.1 ∙ rest_behind-prefix prefix h.0 in
    rw rest (λ e. cc)
