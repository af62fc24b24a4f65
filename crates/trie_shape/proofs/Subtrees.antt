-- The trie of pairs from a depth on, by what their keys share there.
use Rattle.std.proofs.Common.{◌≡◌, ℕ, suc, ◌+◌, ◌-◌, ◌^◌, ◌<◌, ◌≤◌, List, [], ◌∷◌, length, take, drop, get_or, Option, refl, sym, ◌∙◌, ap, ap₂, subst, arith}
use Rattle.std.specs.List.{AllByRecursion}
use Rattle.std.proofs.lemmas.List.{length-append, length-drop, drop-drop}
use Rattle.std.proofs.Math.Seq.{take-append_seam}
use Rattle.byte_model.specs.Nibbles.{nibbles}
use Rattle.byte_model.specs.PackedPath.{longest_path}
use Rattle.trie_model.specs.Grown.{grown, AllHavePrefix}
use Rattle.trie_model.specs.State.{Row}
use Rattle.trie_model.specs.Tree.{Tree, leaf, branch, common, tree_of}
use Rattle.trie_model.specs.Texts.{usage}
use Rattle.trie_model.proofs.Growth.{last_row, common_prefix-rising}
use Rattle.trie_model.proofs.Trees.{tree_of-nil, tree_of-one}
use Rattle.trie_shape.specs.declared.sub.Sub.{Sub}
use Rattle.trie_shape.specs.declared.sub.Sub.TheVariants.{Empty}
use Rattle.trie_shape.specs.Runs.{Rises, prefix_of}
use Rattle.trie_shape.specs.RowsAt.{Lent, row_at, rows_at, IsRowAt, AreRowsAt}
use Rattle.trie_shape.specs.Shows.{Shows}
use Rattle.trie_shape.proofs.Runs.{rising, rises}
use Rattle.trie_shape.proofs.Prefixes.{dropped, rest_of, all-prefix, tree-rest, rising-rest, rest-apart}
use Rattle.trie_shape.proofs.SoundRows.{tree-forks}
use Rattle.trie_shape.proofs.Branches.{forks}

-- ---- no row, and one

pub empty-shown : (depth : ℕ) (rows : List Lent) → length rows ≡ 0 → Shows Empty (tree_of (rows_at depth rows))
empty-shown depth [] e = subst (Shows Empty) (sym tree_of-nil) tt
empty-shown depth (row ∷ rows) e = absurd (omega arith)

pub one-shown : (depth : ℕ) (rows : List Lent) (d : Lent) (sub : Sub) → length rows ≡ 1 → Shows sub (leaf (row_at depth (get_or rows 0 d)).0 (row_at depth (get_or rows 0 d)).1) → Shows sub (tree_of (rows_at depth rows))
one-shown depth [] d sub e h = absurd (omega arith)
one-shown depth (row ∷ []) d sub e h = subst (Shows sub) (sym (tree_of-one (row_at depth row))) h
one-shown depth (row ∷ next ∷ rows) d sub e h = absurd (omega arith)

-- ---- several

last-rows_at : (depth : ℕ) (row : Lent) (rows : List Lent) (d : Lent) → last_row (row_at depth row) (rows_at depth rows) ≡ row_at depth (get_or (row ∷ rows) (length rows) d)
last-rows_at depth row [] d = refl
last-rows_at depth row (next ∷ rows) d = last-rows_at depth next rows d

abbrev at_depth : ℕ → Lent → List ℕ
at_depth depth row = drop depth (nibbles row.0.now)

pub shared-prefix : (depth : ℕ) (rows : List Lent) (d : Lent) → 1 ≤ length rows → AreRowsAt depth rows → length (common (at_depth depth (get_or rows 0 d)) (at_depth depth (get_or rows (length rows - 1) d))) ≡ length (prefix_of (rows_at depth rows))
shared-prefix depth [] d some h = absurd (omega arith)
shared-prefix depth (row ∷ rows) d some h =
    let end : suc (length rows) - 1 ≡ length rows = omega arith in
    let last = ap (λ (r : Row). r.0) (last-rows_at depth row rows d) ∙ ap (λ n. at_depth depth (get_or (row ∷ rows) n d)) (sym end) in
    ap length (ap (common (at_depth depth row)) (sym last) ∙ sym (common_prefix-rising (row_at depth row) (rows_at depth rows) (rising (rows_at depth (row ∷ rows)) h.rises)))

dropped-rows_at : (depth n : ℕ) (rows : List Lent) → dropped n (rows_at depth rows) ≡ rows_at (depth + n) rows
dropped-rows_at depth n [] = refl
dropped-rows_at depth n (row ∷ rows) = ap₂ (λ (p : List ℕ) (rs : List Row). (p, row.1.now) ∷ rs) (drop-drop n depth (nibbles row.0.now)) (dropped-rows_at depth n rows)

each-deeper : (depth : ℕ) (prefix : List ℕ) (rows : List Lent) → AllHavePrefix prefix (rows_at depth rows) → AllByRecursion (IsRowAt depth) rows → AllByRecursion (IsRowAt (depth + length prefix)) rows
each-deeper depth prefix [] have each = tt
each-deeper depth prefix (row ∷ rows) have each =
    let whole = ap length have.0.1 ∙ length-append prefix have.0.0 in
    let left = length-drop depth (nibbles row.0.now) in
    let deep = each.0.deep in
    (record { deep = omega arith; short = each.0.short; nibbles = each.0.nibbles; value = each.0.value }, each-deeper depth prefix rows have.1 each.1)

-- a tree with nibbles before it uses no less
grown-uses : (prefix : List ℕ) (value : Option (List ℕ)) (kids : ℕ → Tree) → usage (branch value kids) ≤ usage (grown prefix (branch value kids))
unfolding grown usage
grown-uses [] value kids = omega arith
grown-uses (x ∷ prefix) value kids = omega arith

module _ (depth shared : ℕ) (rows : List Lent) (are : AreRowsAt depth rows) (is : shared ≡ length (prefix_of (rows_at depth rows))) where
  abbrev here : List Row
  here = rows_at depth rows

  deeper_is : rest_of here ≡ rows_at (depth + shared) rows
  deeper_is = ap (λ n. dropped n here) (sym is) ∙ dropped-rows_at depth shared rows

  pub deeper-rows : AreRowsAt (depth + shared) rows
  deeper-rows = record {
    rises = subst Rises deeper_is (rises (rest_of here) (rising-rest here (rising here are.rises)));
    each = subst (λ n. AllByRecursion (IsRowAt (depth + n)) rows) (sym is) (each-deeper depth (prefix_of here) rows (all-prefix here) are.each);
  }

  pub deeper-apart : prefix_of (rows_at (depth + shared) rows) ≡ []
  deeper-apart = ap prefix_of (sym deeper_is) ∙ rest-apart here

  pub deeper-grown : tree_of here ≡ grown (prefix_of here) (tree_of (rows_at (depth + shared) rows))
  deeper-grown = tree-rest here ∙ ap (λ rs. grown (prefix_of here) (tree_of rs)) deeper_is

  pub deeper-fits : 2 ≤ length rows → usage (tree_of here) < 2 ^ 64 → usage (tree_of (rows_at (depth + shared) rows)) < 2 ^ 64
  deeper-fits two fits =
      let is_branch = tree-forks (rows_at (depth + shared) rows) (forks (depth + shared) rows deeper-apart two) in
      let less = subst (λ t. usage t ≤ usage (grown (prefix_of here) t)) (sym is_branch) (grown-uses (prefix_of here) _ _) in
      let same = ap usage deeper-grown in
      omega arith

  pub deeper-short : 1 ≤ length rows → depth + shared ≤ longest_path
  deeper-short some = first_short rows some deeper-rows.each
    where
      first_short : (rs : List Lent) → 1 ≤ length rs → AllByRecursion (IsRowAt (depth + shared)) rs → depth + shared ≤ longest_path
      first_short [] some each = absurd (omega arith)
      first_short (row ∷ rs) some each = let deep = each.0.deep in let short = each.0.short in omega arith

  pub deep-first : (d : Lent) → 1 ≤ length rows → depth + shared ≤ length (nibbles (get_or rows 0 d).0.now)
  deep-first d some = first_deep rows some deeper-rows.each
    where
      first_deep : (rs : List Lent) → 1 ≤ length rs → AllByRecursion (IsRowAt (depth + shared)) rs → depth + shared ≤ length (nibbles (get_or rs 0 d).0.now)
      first_deep [] some each = absurd (omega arith)
      first_deep (row ∷ rs) some each = each.0.deep

  prefix_is : (d : Lent) → 1 ≤ length rows → take shared (at_depth depth (get_or rows 0 d)) ≡ prefix_of here
  prefix_is d some = ap (λ n. take n (at_depth depth (get_or rows 0 d))) is ∙ by_first rows some (prefix_of here) (all-prefix here)
    where
      by_first : (rs : List Lent) → 1 ≤ length rs → (prefix : List ℕ) → AllHavePrefix prefix (rows_at depth rs) → take (length prefix) (at_depth depth (get_or rs 0 d)) ≡ prefix
      by_first [] some prefix have = absurd (omega arith)
      by_first (row ∷ rs) some prefix have = ap (take (length prefix)) have.0.1 ∙ take-append_seam prefix have.0.0

  pub several-shown : (d : Lent) (sub : Sub) (prefix : List ℕ) → 1 ≤ length rows → prefix ≡ take shared (at_depth depth (get_or rows 0 d)) → Shows sub (grown prefix (tree_of (rows_at (depth + shared) rows))) → Shows sub (tree_of here)
  several-shown d sub prefix some e h =
      subst (Shows sub) (sym deeper-grown) (subst (λ (f : List ℕ). Shows sub (grown f (tree_of (rows_at (depth + shared) rows)))) (e ∙ prefix_is d some) h)
