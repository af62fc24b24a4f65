-- The nodes of a state's trie fit their records and have the shape that nodes have.
use Rattle.std.proofs.Common.{◌≡◌, ◌≢◌, ℕ, zero, suc, ◌+◌, ◌<◌, ◌≤◌, ◌==◌, Bool, true, if◌then◌else◌, List, [], ◌∷◌, length, Option, None, Some, IfSome, is_some, option_map, refl, sym, ◌∙◌, ap, subst, inl, inr, arith}
use Rattle.std.specs.List.{AllByRecursion, cons_option}
use Rattle.trie_model.proofs.Members.{IsIn, all_at}
use Rattle.std.proofs.lemmas.Bool.{cases_lt}
use Rattle.std.proofs.lemmas.Bool.Decides.{nat_tests}
use Rattle.std.specs.FinMap.{entries}
use Rattle.sha2.proofs.Facts256.{length-sha256}
use Rattle.byte_model.specs.Below.{sum_below}
use Rattle.byte_model.specs.Nibbles.{AreNibbles}
use Rattle.byte_model.proofs.Digits.{AreNibbles-prefix}
use Rattle.byte_model.specs.Node as node
use Rattle.byte_model.specs.Node.{Node, IsShaped, child_count, longest_value}
use Rattle.byte_model.specs.Laws.{IsDigest, NamesValue, FitsRecord}
use Rattle.trie_model.specs.State.{State, Row, IsPair, IsState, rows_of}
use Rattle.trie_model.specs.Tree.{Tree, nothing, leaf, branch, extension, rest_behind, below, ends_here, common, common_prefix, tree_of}
use Rattle.trie_model.specs.Texts.{text, name_of, node_of, value_ref}
use Rattle.trie_model.specs.Root.{subtree_at}
use Rattle.trie_model.proofs.Worked.{Pair, rows_of_pairs}
use Rattle.trie_model.proofs.Rests.{AllHavePrefix, common_prefix-all, below-some}
use Rattle.trie_model.proofs.Trees.{tree_of-nil, tree_of-one, tree_of-forks, tree_of-shares, by_cases}
use Rattle.trie_model.proofs.Order.{Before, RisingRows, rising-below, rising-rows_of, all-below}
use Rattle.trie_model.proofs.Pairs.{from_before, from_empty, Small, small-below, small-rows_of}
use Rattle.trie_model.proofs.Growth.{last_row, common_prefix-rising}

-- ---- a name is there where there are rows

pub name_of-some : (rows : List Row) (t : List ℕ) → rows ≢ [] → is_some (name_of (tree_of rows) t) ≡ true
unfolding name_of
name_of-some rows t = go rows
  where
    go : (rs : List Row) → rs ≢ [] → is_some (name_of (tree_of rs) t) ≡ true
    go = by_cases (λ rs. rs ≢ [] → is_some (name_of (tree_of rs) t) ≡ true) (record {
      none = λ some. absurd (some refl);
      one = λ row some. subst (λ tree. is_some (name_of tree t) ≡ true) (sym (tree_of-one row)) refl;
      forks = λ row next more e further some. subst (λ tree. is_some (name_of tree t) ≡ true) (sym (tree_of-forks row next more e)) refl;
      shares = λ row next more x prefix e further some. subst (λ tree. is_some (name_of tree t) ≡ true) (sym (tree_of-shares row next more x prefix e)) refl;
    })

pub name_of-digest : (tree : Tree) (t : List ℕ) → IfSome (name_of tree t) IsDigest
unfolding name_of
name_of-digest nothing t = tt
name_of-digest (leaf path value) t = length-sha256 t
name_of-digest (branch value kids) t = length-sha256 t
name_of-digest (extension path child) t = length-sha256 t

-- ---- counts

abbrev counted : (ℕ → Bool) → ℕ → ℕ
counted there n = sum_below (λ i. if there i then 1 else 0) n

one_counted : (there : ℕ → Bool) (x n : ℕ) → x < n → there x ≡ true → 1 ≤ counted there n
unfolding sum_below
one_counted there x zero h t = absurd (omega arith)
one_counted there x (suc n) h t =
    elim (cases_lt x n) [
      | inl l ↦ let further = one_counted there x n l t in omega arith
      | inr r ↦
          let same : x ≡ n = omega arith in
          let last : there n ≡ true = ap there (sym same) ∙ t in
          rw last (omega arith)
    ]

two_counted : (there : ℕ → Bool) (x y n : ℕ) → x < y → y < n → there x ≡ true → there y ≡ true → 2 ≤ counted there n
unfolding sum_below
two_counted there x y zero l h t u = absurd (omega arith)
two_counted there x y (suc n) l h t u =
    elim (cases_lt y n) [
      | inl k ↦ let further = two_counted there x y n l k t u in omega arith
      | inr k ↦
          let same : y ≡ n = omega arith in
          let last : there n ≡ true = ap there (sym same) ∙ u in
          let first = one_counted there x n (omega arith) t in
          rw last (omega arith)
    ]

-- ---- rows

-- a value within the limit
abbrev HasShortValue : Row → Type 0
HasShortValue row = length row.1 ≤ longest_value

abbrev pub ShortValues : List Row → Type 0
ShortValues rows = AllByRecursion HasShortValue rows

pub short-below : (prefix : List ℕ) (rows : List Row) → ShortValues rows → ShortValues (below prefix rows)
short-below prefix rows h = all-below HasShortValue HasShortValue prefix (λ row rest e k. k) rows h

ends_here-short : (rows : List Row) → ShortValues rows → IfSome (ends_here rows) (λ value. length value ≤ longest_value)
unfolding ends_here
ends_here-short [] h = tt
ends_here-short (([], value) ∷ rows) h = h.0
ends_here-short ((x ∷ path, value) ∷ rows) h = ends_here-short rows h.1

-- ---- what a row adds to the names of a branch

abbrev names : List Row → ℕ → Option (List ℕ)
names rows x = name_of (tree_of (below (x ∷ []) rows)) (text (tree_of (below (x ∷ []) rows)))

below-in : (x : ℕ) (rest : List ℕ) (row : Row) (rows : List Row) → IsIn rows row → row.0 ≡ x ∷ rest → below (x ∷ []) rows ≢ []
unfolding below
below-in x rest row [] h e none = absurd h
below-in x rest row (first ∷ rows) (inl same) e none = below-some (x ∷ []) first rows (rest, ap (λ (r : Row). r.0) same ∙ e) none
below-in x rest row (first ∷ rows) (inr h) e none =
    below-in x rest row rows h e (tail_none (rest_behind (x ∷ []) first.0) none)
  where
    tail_none : (r : Option (List ℕ)) → cons_option (option_map (λ rest. (rest, first.1)) r) (below (x ∷ []) rows) ≡ [] → below (x ∷ []) rows ≡ []
    tail_none None e = e
    tail_none (Some rest) e = cc

named : (x : ℕ) (rest : List ℕ) (row : Row) (rows : List Row) → IsIn rows row → row.0 ≡ x ∷ rest → is_some (names rows x) ≡ true
named x rest row rows h e = name_of-some (below (x ∷ []) rows) _ (below-in x rest row rows h e)

last_in : (row : Row) (rows : List Row) → IsIn (row ∷ rows) (last_row row rows)
last_in row [] = inl refl
last_in row (next ∷ rows) = inr (last_in next rows)

-- ---- branches

nibble_small : (x : ℕ) (rest : List ℕ) (row : Row) → row.0 ≡ x ∷ rest → AreNibbles row.0 → x < 16
nibble_small x rest row e h = (subst AreNibbles e h).0

-- two first nibbles that differ
apart_firsts : (x y : ℕ) (p q : List ℕ) → common (x ∷ p) (y ∷ q) ≡ [] → x ≢ y
unfolding common
apart_firsts x y p q e same =
    let test : (x == y) ≡ true = grind (arith, nat_tests) in
    no_cons x (common p q) (sym (ap (λ b. if b then x ∷ common p q else []) test) ∙ e)
  where
    no_cons : (n : ℕ) (ns : List ℕ) → n ∷ ns ≡ [] → ⊥
    no_cons n ns e = cc

-- rows that fork have two of children and value at least
enough_parts : (row next : Row) (rows : List Row) → common_prefix row (next ∷ rows) ≡ [] → RisingRows (row ∷ next ∷ rows) → Small (row ∷ next ∷ rows) → 2 ≤ child_count (names (row ∷ next ∷ rows)) + (if is_some (ends_here (row ∷ next ∷ rows)) then 1 else 0)
unfolding ends_here
enough_parts ([], value) next rows e rising small =
    let after = from_empty next.0 rising.0.0 in
    let there = named after.0 after.1 next (([], value) ∷ next ∷ rows) (inr (inl refl)) after.2 in
    let child = one_counted (λ i. is_some (names (([], value) ∷ next ∷ rows) i)) after.0 16 (nibble_small after.0 after.1 next after.2 small.1.0) there in
    omega arith
enough_parts (x ∷ p, value) next rows e rising small =
    let rs : List Row = (x ∷ p, value) ∷ next ∷ rows in
    let last : Row = last_row next rows in
    let in_rest : IsIn (next ∷ rows) last = last_in next rows in
    let after = from_before x p last.0 (all_at (λ later. Before (x ∷ p) later.0) (next ∷ rows) last rising.0 in_rest) in
    let y : ℕ = after.0 in
    let ends : common (x ∷ p) (y ∷ after.1) ≡ [] = ap (common (x ∷ p)) (sym after.2) ∙ sym (common_prefix-rising (x ∷ p, value) (next ∷ rows) rising) ∙ e in
    let apart = apart_firsts x y p after.1 ends in
    let not_below : x ≤ y = after.3 in
    let y_small : y < 16 = nibble_small y after.1 last after.2 (all_at (λ row. AreNibbles row.0) (next ∷ rows) last small.1 in_rest) in
    let first = named x p (x ∷ p, value) rs (inl refl) refl in
    let second = named y after.1 last rs (inr in_rest) after.2 in
    let kids = two_counted (λ i. is_some (names rs i)) x y 16 (omega arith) y_small first second in
    omega arith

shaped_branch : (value : Option (List ℕ)) (kids : ℕ → Option (List ℕ)) → IfSome value (λ v. length v ≤ longest_value) → 2 ≤ child_count kids + (if is_some value then 1 else 0) → IsShaped (node.branch (option_map value_ref value) kids)
shaped_branch None kids short enough = omega arith
shaped_branch (Some value) kids short enough = (short, omega arith)

-- ---- nodes

abbrev IsSound : Node → Type 0
IsSound node = IsShaped node × FitsRecord node

abbrev IsSoundAt : List Row → Type 0
IsSoundAt rows = RisingRows rows → Small rows → ShortValues rows → IfSome (node_of (tree_of rows)) IsSound

names_value : (value : List ℕ) → length value ≤ longest_value → NamesValue (value_ref value)
names_value value h = (omega arith, length-sha256 value)

names_maybe : (value : Option (List ℕ)) → IfSome value (λ v. length v ≤ longest_value) → IfSome (option_map value_ref value) NamesValue
names_maybe None h = tt
names_maybe (Some value) h = names_value value h

pub sound_nodes : (rows : List Row) → RisingRows rows → Small rows → ShortValues rows → IfSome (node_of (tree_of rows)) (λ node. IsShaped node × FitsRecord node)
unfolding node_of
sound_nodes = by_cases IsSoundAt (record {
  none = λ rising small short. subst (λ t. IfSome (node_of t) IsSound) (sym tree_of-nil) tt;
  one = λ row rising small short. subst (λ t. IfSome (node_of t) IsSound) (sym (tree_of-one row)) (short.0, (small.0, names_value row.1 short.0));
  forks = λ row next rows e further rising small short.
      let rs : List Row = row ∷ next ∷ rows in
      let value = ends_here-short rs short in
      subst (λ t. IfSome (node_of t) IsSound) (sym (tree_of-forks row next rows e))
      (shaped_branch (ends_here rs) (names rs) value (enough_parts row next rows e rising small), (names_maybe (ends_here rs) value, λ x h. name_of-digest (tree_of (below (x ∷ []) rs)) (text (tree_of (below (x ∷ []) rs)))));
  shares = λ row next rows x prefix e further rising small short.
      let all = subst (λ (f : List ℕ). AllHavePrefix f (row ∷ next ∷ rows)) e (common_prefix-all row (next ∷ rows)) in
      subst (λ t. IfSome (node_of t) IsSound) (sym (tree_of-shares row next rows x prefix e))
      (cons_some x prefix, (AreNibbles-prefix (x ∷ prefix) all.0.0 (subst AreNibbles all.0.1 small.0), length-sha256 _));
})
  where
    cons_some : (x : ℕ) (prefix : List ℕ) → x ∷ prefix ≢ []
    cons_some x prefix e = cc

-- ---- of a state

short_pairs : (pairs : List Pair) → AllByRecursion IsPair pairs → ShortValues (rows_of_pairs pairs)
short_pairs [] h = tt
short_pairs (pair ∷ pairs) h = (h.0.value_length, short_pairs pairs h.1)

pub short-rows_of : (state : State) → IsState state → ShortValues (rows_of state)
unfolding rows_of
short-rows_of state is = short_pairs (entries state) is.pairs

pub sound-node_of : (state : State) → IsState state → (place : List ℕ) → IfSome (node_of (subtree_at state place)) (λ node. IsShaped node × FitsRecord node)
unfolding subtree_at
sound-node_of state is place =
    let rows = rows_of state in
    sound_nodes (below place rows) (rising-below place rows (rising-rows_of state)) (small-below place rows (small-rows_of state is)) (short-below place rows (short-rows_of state is))
