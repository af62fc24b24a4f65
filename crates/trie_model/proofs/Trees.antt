-- The trie of a list of rows: the bound on its depth never shows, and its three cases.
use Rattle.std.proofs.Common.{◌≡◌, ℕ, zero, suc, ◌+◌, ◌-◌, ◌≤◌, ◌<◌, max, List, [], ◌∷◌, length, None, Some, option_map, refl, sym, ◌∙◌, ap, arith, ◌==◌, true, false, if◌then◌else◌}
use Rattle.std.specs.List.{cons_option}
use mathlib.Core.Path.{fun_ext}
use Rattle.trie_model.specs.State.{Row}
use Rattle.trie_model.specs.Tree.{Tree, nothing, leaf, branch, extension, rest_behind, below, ends_here, common_prefix, forked, tree_by, tree_within, longest, tree_of}

-- how deep the bound on a list's trie has to be: one more than its longest path, and 0 for no rows
unfoldable pub needed : List Row → ℕ
needed [] = 0
needed (row ∷ rows) = max (suc (length row.0)) (needed rows)

pub needed-longest : (rows : List Row) → needed rows ≤ suc (longest rows)
unfolding needed longest
needed-longest [] = omega arith
needed-longest (row ∷ rows) = let h = needed-longest rows in omega arith

pub length-rest_behind : (prefix path rest : List ℕ) → rest_behind prefix path ≡ Some rest → length rest + length prefix ≡ length path
unfolding rest_behind
length-rest_behind [] path rest e = let h : path ≡ rest = cc in rw h (omega arith)
length-rest_behind (x ∷ prefix) [] rest e = cc
length-rest_behind (x ∷ prefix) (y ∷ path) rest e =
    elim (x == y) as (λ b. (if b then rest_behind prefix path else None) ≡ Some rest → length rest + suc (length prefix) ≡ suc (length path)) [
      | true ↦ λ h. let k = length-rest_behind prefix path rest h in omega arith
      | false ↦ λ h. cc
    ] e

pub needed-below : (x : ℕ) (prefix : List ℕ) (rows : List Row) → needed (below (x ∷ prefix) rows) ≤ needed rows - 1
unfolding needed below
needed-below x prefix [] = omega arith
needed-below x prefix (row ∷ rows) =
    let rest_fits = needed-below x prefix rows in
    elim (rest_behind (x ∷ prefix) row.0) as (λ r. rest_behind (x ∷ prefix) row.0 ≡ r → needed (cons_option (option_map (λ rest. (rest, row.1)) r) (below (x ∷ prefix) rows)) ≤ max (suc (length row.0)) (needed rows) - 1) [
      | None ↦ λ e. omega arith
      | Some rest ↦ λ e. let h = length-rest_behind (x ∷ prefix) row.0 rest e in omega arith
    ] refl

-- the three cases see of `subtree` what it gives of rows further down
pub tree_by-agree : (f g : List Row → Tree) (rows : List Row) → ((x : ℕ) (prefix : List ℕ) → f (below (x ∷ prefix) rows) ≡ g (below (x ∷ prefix) rows)) → tree_by f rows ≡ tree_by g rows
tree_by-agree f g [] same = refl
tree_by-agree f g (row ∷ []) same = refl
tree_by-agree f g (row ∷ next ∷ rows) same = go (common_prefix row (next ∷ rows))
  where
    go : (prefix : List ℕ) → forked f prefix (row ∷ next ∷ rows) ≡ forked g prefix (row ∷ next ∷ rows)
    go [] = ap (branch (ends_here (row ∷ next ∷ rows))) (fun_ext (λ x. same x []))
    go (x ∷ prefix) = ap (extension (x ∷ prefix)) (same x prefix)

no_rows : (rows : List Row) → needed rows ≤ 0 → rows ≡ []
unfolding needed
no_rows [] h = refl
no_rows (row ∷ rows) h = absurd (omega arith)

tree_within-nil : (d : ℕ) → tree_within d [] ≡ nothing
unfolding tree_within
tree_within-nil zero = refl
tree_within-nil (suc d) = refl

empty_bound : (row : Row) (rows : List Row) → needed (row ∷ rows) ≤ 0 → ⊥
unfolding needed
empty_bound row rows h = omega arith

-- any two bounds that suffice give the same tree
pub tree_within-tree_within : (d e : ℕ) (rows : List Row) → needed rows ≤ d → needed rows ≤ e → tree_within d rows ≡ tree_within e rows
unfolding tree_within
tree_within-tree_within zero e rows h k = rw (no_rows rows h) (sym (tree_within-nil e))
tree_within-tree_within (suc d) zero rows h k = rw (no_rows rows k) refl
tree_within-tree_within (suc d) (suc e) rows h k =
    tree_by-agree (tree_within d) (tree_within e) rows (λ x prefix.
    let n = needed-below x prefix rows in
    tree_within-tree_within d e (below (x ∷ prefix) rows) (omega arith) (omega arith))

-- a bound above the longest path suffices
pub tree_within-enough : (d : ℕ) (rows : List Row) → longest rows < d → tree_within d rows ≡ tree_of rows
unfolding tree_of
tree_within-enough d rows h =
    let n = needed-longest rows in
    tree_within-tree_within d (suc (longest rows)) rows (omega arith) n

needed-suc_longest : (x : ℕ) (prefix : List ℕ) (rows : List Row) → needed (below (x ∷ prefix) rows) ≤ longest rows
needed-suc_longest x prefix rows =
    let n = needed-below x prefix rows in
    let m = needed-longest rows in
    omega arith

-- the three cases, of the trie itself
pub tree_by-tree_of : (rows : List Row) → tree_by tree_of rows ≡ tree_of rows
unfolding tree_of tree_within
tree_by-tree_of rows = tree_by-agree tree_of (tree_within (longest rows)) rows (λ x prefix. one_bound x prefix)
  where
    one_bound : (x : ℕ) (prefix : List ℕ) → tree_of (below (x ∷ prefix) rows) ≡ tree_within (longest rows) (below (x ∷ prefix) rows)
    one_bound x prefix =
        let n = needed-suc_longest x prefix rows in
        let m = needed-longest (below (x ∷ prefix) rows) in
        tree_within-tree_within (suc (longest (below (x ∷ prefix) rows))) (longest rows) (below (x ∷ prefix) rows) m n

-- ---- the three cases, one by one

pub tree_of-nil : tree_of [] ≡ nothing
tree_of-nil = sym (tree_by-tree_of [])

pub tree_of-one : (row : Row) → tree_of (row ∷ []) ≡ leaf row.0 row.1
tree_of-one row = sym (tree_by-tree_of (row ∷ []))

pub tree_of-forks : (row next : Row) (rows : List Row) → common_prefix row (next ∷ rows) ≡ [] → tree_of (row ∷ next ∷ rows) ≡ branch (ends_here (row ∷ next ∷ rows)) (λ x. tree_of (below (x ∷ []) (row ∷ next ∷ rows)))
tree_of-forks row next rows e = sym (tree_by-tree_of (row ∷ next ∷ rows)) ∙ ap (λ prefix. forked tree_of prefix (row ∷ next ∷ rows)) e

pub tree_of-shares : (row next : Row) (rows : List Row) (x : ℕ) (prefix : List ℕ) → common_prefix row (next ∷ rows) ≡ x ∷ prefix → tree_of (row ∷ next ∷ rows) ≡ extension (x ∷ prefix) (tree_of (below (x ∷ prefix) (row ∷ next ∷ rows)))
tree_of-shares row next rows x prefix e = sym (tree_by-tree_of (row ∷ next ∷ rows)) ∙ ap (λ prefix. forked tree_of prefix (row ∷ next ∷ rows)) e

-- ---- induction along the trie

-- what holds at no row and at one, and at rows that fork or share a prefix wherever it holds below, holds of every list of rows
pub record ByCases (P : List Row → Type 0) : Type 0 where
  pub none : P []
  pub one : (row : Row) → P (row ∷ [])
  pub forks : (row next : Row) (rows : List Row) → common_prefix row (next ∷ rows) ≡ [] → ((x : ℕ) → P (below (x ∷ []) (row ∷ next ∷ rows))) → P (row ∷ next ∷ rows)
  pub shares : (row next : Row) (rows : List Row) (x : ℕ) (prefix : List ℕ) → common_prefix row (next ∷ rows) ≡ x ∷ prefix → P (below (x ∷ prefix) (row ∷ next ∷ rows)) → P (row ∷ next ∷ rows)

within_cases : (P : List Row → Type 0) → ByCases P → (d : ℕ) (rows : List Row) → needed rows ≤ d → P rows
within_cases P cases d [] h = cases.none
within_cases P cases d (row ∷ []) h = cases.one row
within_cases P cases zero (row ∷ next ∷ rows) h = absurd (empty_bound row (next ∷ rows) h)
within_cases P cases (suc d) (row ∷ next ∷ rows) h = go (common_prefix row (next ∷ rows)) refl (λ x prefix.
    let n = needed-below x prefix (row ∷ next ∷ rows) in
    within_cases P cases d (below (x ∷ prefix) (row ∷ next ∷ rows)) (omega arith))
  where
    go : (prefix : List ℕ) → common_prefix row (next ∷ rows) ≡ prefix → ((x : ℕ) (prefix : List ℕ) → P (below (x ∷ prefix) (row ∷ next ∷ rows))) → P (row ∷ next ∷ rows)
    go [] e further = cases.forks row next rows e (λ x. further x [])
    go (x ∷ prefix) e further = cases.shares row next rows x prefix e (further x prefix)

pub by_cases : (P : List Row → Type 0) → ByCases P → (rows : List Row) → P rows
by_cases P cases rows = within_cases P cases (suc (longest rows)) rows (needed-longest rows)
