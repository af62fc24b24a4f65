-- Rows without the prefix that they share: their trie is the trie of the rests, with the prefix put before it.
use Rattle.std.proofs.Common.{◌≡◌, ◌≢◌, ℕ, zero, suc, ◌<◌, ◌≤◌, ◌==◌, true, false, List, [], ◌∷◌, ◌++◌, map, length, take, drop, get_or, Some, refl, sym, ◌∙◌, ap, ap₂, subst, arith}
use Rattle.std.proofs.lemmas.Bool.{false_from_ne_true}
use Rattle.std.proofs.Math.Seq.{drop-append_seam}
use Rattle.std.proofs.lemmas.List.{length-take-le}
use Rattle.trie_model.specs.State.{Row}
use Rattle.trie_model.specs.Tree.{rest_behind, below, common, tree_of}
use Rattle.byte_model.proofs.Lists.{first_same, rest_same}
use Rattle.trie_model.specs.Grown.{grown, under, AllHavePrefix}
use Rattle.trie_model.proofs.Growth.{common_prefix-under, tree_of-prefix}
use Rattle.trie_model.proofs.Order.{RisingRows, rising-below}
use Rattle.trie_model.proofs.Rests.{under-below, common_prefix-all, rest_behind-prefix, same_nibble, equal_of_test}
use Rattle.trie_shape.specs.Runs.{prefix_of}

-- ---- the length of what two paths share

pub common-of_length : (n : ℕ) (p q : List ℕ) → n ≤ length p → n ≤ length q → take n p ≡ take n q → (n < length p → n < length q → get_or p n 0 ≢ get_or q n 0) → common p q ≡ take n p
unfolding common
common-of_length zero [] q short_p short_q same differ = refl
common-of_length (suc n) [] q short_p short_q same differ = absurd (omega arith)
common-of_length zero (x ∷ p) [] short_p short_q same differ = refl
common-of_length (suc n) (x ∷ p) [] short_p short_q same differ = absurd (omega arith)
common-of_length zero (x ∷ p) (y ∷ q) short_p short_q same differ =
    let apart : (x == y) ≡ false = false_from_ne_true (x == y) (λ t. differ (omega arith) (omega arith) (equal_of_test x y t)) in
    rw apart refl
common-of_length (suc n) (x ∷ p) (y ∷ q) short_p short_q same differ =
    let first : x ≡ y = first_same same in
    let test : (x == y) ≡ true = subst (λ w. (x == w) ≡ true) first (same_nibble x) in
    rw test (ap (λ (r : List ℕ). x ∷ r) (common-of_length n p q (omega arith) (omega arith) (rest_same same) (λ a b. differ (omega arith) (omega arith))))

pub length-common : (p q : List ℕ) (n : ℕ) → n ≤ length p → n ≤ length q → take n p ≡ take n q → (n < length p → n < length q → get_or p n 0 ≢ get_or q n 0) → length (common p q) ≡ n
length-common p q n short_p short_q same differ = ap length (common-of_length n p q short_p short_q same differ) ∙ length-take-le n p short_p

-- ---- rows without a prefix

-- the rows without so many of their first nibbles
abbrev pub dropped : ℕ → List Row → List Row
dropped n rows = map (λ row. (drop n row.0, row.1)) rows

below-dropped : (prefix : List ℕ) (rows : List Row) → AllHavePrefix prefix rows → below prefix rows ≡ dropped (length prefix) rows
unfolding below
below-dropped prefix [] h = refl
below-dropped prefix (row ∷ rows) h =
    let e : row.0 ≡ prefix ++ h.0.0 = h.0.1 in
    let rest : rest_behind prefix row.0 ≡ Some h.0.0 = ap (rest_behind prefix) e ∙ rest_behind-prefix prefix h.0.0 in
    let left : drop (length prefix) row.0 ≡ h.0.0 = ap (drop (length prefix)) e ∙ drop-append_seam prefix h.0.0 in
    rw rest (ap₂ (λ (p : List ℕ) (others : List Row). (p, row.1) ∷ others) (sym left) (below-dropped prefix rows h.1))

-- ---- what rows share

pub all-prefix : (rows : List Row) → AllHavePrefix (prefix_of rows) rows
all-prefix [] = tt
all-prefix (row ∷ rows) = common_prefix-all row rows

abbrev pub rest_of : List Row → List Row
rest_of rows = dropped (length (prefix_of rows)) rows

below-rest : (rows : List Row) → below (prefix_of rows) rows ≡ rest_of rows
below-rest rows = below-dropped (prefix_of rows) rows (all-prefix rows)

pub tree-rest : (rows : List Row) → tree_of rows ≡ grown (prefix_of rows) (tree_of (rest_of rows))
tree-rest rows = tree_of-prefix (prefix_of rows) rows (all-prefix rows) ∙ ap (λ rs. grown (prefix_of rows) (tree_of rs)) (below-rest rows)

pub rising-rest : (rows : List Row) → RisingRows rows → RisingRows (rest_of rows)
rising-rest rows h = subst RisingRows (below-rest rows) (rising-below (prefix_of rows) rows h)

no_more : (c d : List ℕ) → c ≡ c ++ d → d ≡ []
no_more [] d e = sym e
no_more (x ∷ c) d e = no_more c d (rest_same e)

pub rest-apart : (rows : List Row) → prefix_of (rest_of rows) ≡ []
rest-apart [] = refl
rest-apart (row ∷ rows) =
    let all : List Row = row ∷ rows in
    let under-rest : under (prefix_of all) (rest_of all) ≡ all = ap (under (prefix_of all)) (sym (below-rest all)) ∙ under-below (prefix_of all) all (all-prefix all) in
    no_more (prefix_of all) (prefix_of (rest_of all)) (sym (ap prefix_of under-rest) ∙ common_prefix-under (prefix_of all) (drop (length (prefix_of all)) row.0, row.1) (dropped (length (prefix_of all)) rows))
