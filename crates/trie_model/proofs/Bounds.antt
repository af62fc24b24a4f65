-- A usage is small: each value is paid once, and each row pays at most one node at each step down its path.
use Rattle.std.proofs.Common.{◌≡◌, ℕ, zero, suc, ◌+◌, ◌-◌, ◌*◌, ◌^◌, ◌<◌, ◌≤◌, ◌==◌, max, Bool, true, false, if◌then◌else◌, List, [], ◌∷◌, length, Option, None, Some, option_map, refl, ◌∙◌, ap, subst, inl, inr, arith, mul-add, mul-le-mul_left, mul-le-mul_right, mul-le-mul, length-append}
use Rattle.std.specs.List.{AllByRecursion, cons_option}
use Rattle.std.proofs.lemmas.Bool.{cases_eq}
use Rattle.std.proofs.lemmas.Bool.Decides.{nat_tests}
use Rattle.byte_model.specs.Below.{sum_below}
use Rattle.byte_model.proofs.Below.{sum_below-agree, sum_below-le, sum_below-zero, sum_below-add_mul}
use Rattle.byte_model.specs.PackedPath.{packed, longest_path}
use Rattle.byte_model.specs.Node.{cost_of}
use Rattle.byte_model.proofs.Paths.{length-packed}
use Rattle.trie_model.specs.State.{State, Row, rows_of, IsState, IsPair}
use Rattle.trie_model.specs.Tree.{branch, rest_behind, below, ends_here, common_prefix, longest, tree_of}
use Rattle.std.specs.FinMap.{entries}
use Rattle.std.proofs.lemmas.List.{length-map}
use Rattle.byte_model.proofs.Digits.{length-nibbles}
use Rattle.trie_model.specs.Root.{subtree_at}
use Rattle.trie_model.proofs.Worked.{Pair, rows_of_pairs}
use Rattle.trie_model.specs.Texts.{top_cost, usage}
use Rattle.trie_model.proofs.Rests.{HasPrefix, AllHavePrefix, common_prefix-all}
use Rattle.trie_model.proofs.Trees.{needed, needed-below, needed-longest, length-rest_behind, tree_of-nil, tree_of-one, tree_of-forks, tree_of-shares, by_cases}

-- ---- sums over nibbles

-- what is added at one nibble is added once
added_past : (g : ℕ → ℕ) (c y n : ℕ) → n ≤ y → sum_below (λ x. (if x == y then c else 0) + g x) n ≡ sum_below g n
unfolding sum_below
added_past g c y zero h = refl
added_past g c y (suc n) h =
    let further = added_past g c y n (omega arith) in
    let test : (n == y) ≡ false = grind (arith, nat_tests) in
    rw test (omega arith)

added_once : (g : ℕ → ℕ) (c y n : ℕ) → sum_below (λ x. (if x == y then c else 0) + g x) n ≤ c + sum_below g n
unfolding sum_below
added_once g c y zero = omega arith
added_once g c y (suc n) =
    let further = added_once g c y n in
    elim (cases_eq n y) [
      | inl same ↦
          let before = added_past g c y n (omega arith) in
          let test : (n == y) ≡ true = grind (arith, nat_tests) in
          rw test (omega arith)
      | inr apart ↦
          let test : (n == y) ≡ false = grind (arith, nat_tests) in
          rw test (omega arith)
    ]

-- ---- what rows weigh

module _ (weight : List ℕ → ℕ) where
  -- the sum over the rows of what their values weigh
  pub weight_of : List Row → ℕ
  weight_of [] = 0
  weight_of (row ∷ rows) = weight row.1 + weight_of rows

  abbrev top_weight : Option (List ℕ) → ℕ
  top_weight None = 0
  top_weight (Some value) = weight value

  weight_of-below : (prefix : List ℕ) (rows : List Row) → weight_of (below prefix rows) ≤ weight_of rows
  unfolding weight_of below
  weight_of-below prefix [] = omega arith
  weight_of-below prefix (row ∷ rows) =
      let further = weight_of-below prefix rows in
      elim (rest_behind prefix row.0) as (λ r. weight_of (cons_option (option_map (λ rest. (rest, row.1)) r) (below prefix rows)) ≤ weight row.1 + weight_of rows) [
        | None ↦ omega arith
        | Some rest ↦ omega arith
      ]

  -- the row that ends here and the rows below the nibbles weigh no more than all
  weight_of-nibbles : (rows : List Row) → top_weight (ends_here rows) + sum_below (λ x. weight_of (below (x ∷ []) rows)) 16 ≤ weight_of rows
  unfolding weight_of below ends_here rest_behind
  weight_of-nibbles [] = let none = sum_below-zero 16 in omega arith
  weight_of-nibbles (([], value) ∷ rows) =
      let further = weight_of-nibbles rows in
      omega arith
  weight_of-nibbles ((y ∷ path, value) ∷ rows) =
      let further = weight_of-nibbles rows in
      let one = added_once (λ x. weight_of (below (x ∷ []) rows)) (weight value) y 16 in
      let same = sum_below-agree (λ x. weight_of (below (x ∷ []) ((y ∷ path, value) ∷ rows))) (λ x. (if x == y then weight value else 0) + weight_of (below (x ∷ []) rows)) 16 (λ x h. each x) in
      omega arith
    where
      each : (x : ℕ) → weight_of (below (x ∷ []) ((y ∷ path, value) ∷ rows)) ≡ (if x == y then weight value else 0) + weight_of (below (x ∷ []) rows)
      each x = elim (x == y) as (λ b. weight_of (cons_option (option_map (λ (rest : List ℕ). (rest, value)) (if b then Some path else None)) (below (x ∷ []) rows)) ≡ (if b then weight value else 0) + weight_of (below (x ∷ []) rows)) [
        | true ↦ refl
        | false ↦ omega arith
      ]

-- ---- the bound

-- what a value costs
abbrev pub value_cost : List ℕ → ℕ
value_cost value = 50 + length value

abbrev one : List ℕ → ℕ
one value = 1

pub weight_of-one : (rows : List Row) → weight_of one rows ≡ length rows
unfolding weight_of
weight_of-one [] = refl
weight_of-one (row ∷ rows) = let further = weight_of-one rows in omega arith

-- the most that a node costs but for its value, where no path has more than 4,228 nibbles
abbrev node_cost : ℕ
node_cost = 4280

abbrev IsBounded : List Row → Type 0
IsBounded rows = longest rows ≤ longest_path → usage (tree_of rows) ≤ weight_of value_cost rows + weight_of one rows * (needed rows * node_cost)

longest-below : (prefix : List ℕ) (rows : List Row) → longest (below prefix rows) ≤ longest rows
unfolding longest below
longest-below prefix [] = omega arith
longest-below prefix (row ∷ rows) =
    let further = longest-below prefix rows in
    elim (rest_behind prefix row.0) as (λ r. rest_behind prefix row.0 ≡ r → longest (cons_option (option_map (λ rest. (rest, row.1)) r) (below prefix rows)) ≤ max (length row.0) (longest rows)) [
      | None ↦ λ e. omega arith
      | Some rest ↦ λ e. let shorter = length-rest_behind prefix row.0 rest e in omega arith
    ] refl

length-packed_le : (ends : Bool) (path : List ℕ) → length path ≤ longest_path → 50 + 2 * length (packed ends path) ≤ node_cost
length-packed_le ends path h = let n = length-packed ends path in omega arith

prefix_length : (prefix : List ℕ) (row : Row) (rows : List Row) → HasPrefix prefix row.0 → longest (row ∷ rows) ≤ longest_path → length prefix ≤ longest_path
unfolding longest
prefix_length prefix row rows h short =
    let whole : length row.0 ≡ length prefix + length h.0 = ap length h.1 ∙ length-append prefix h.0 in
    omega arith

-- a share of the rows that goes less deep
less_deep : (count depth deeper : ℕ) → depth ≤ deeper - 1 → count * (depth * node_cost) ≤ count * ((deeper - 1) * node_cost)
less_deep count depth deeper h = mul-le-mul_left count (mul-le-mul_right node_cost h)

-- one step down for all rows pays a node
one_step : (count deeper : ℕ) → 1 ≤ count → 1 ≤ deeper → count * ((deeper - 1) * node_cost) + node_cost ≤ count * (deeper * node_cost)
one_step count deeper some step =
    let split : deeper * node_cost ≡ (deeper - 1) * node_cost + node_cost = omega arith in
    let whole : count * (deeper * node_cost) ≡ count * ((deeper - 1) * node_cost) + count * node_cost = ap (λ n. count * n) split ∙ mul-add count ((deeper - 1) * node_cost) node_cost in
    let least : 1 * node_cost ≤ count * node_cost = mul-le-mul_right node_cost some in
    omega arith

needed-some : (row : Row) (rows : List Row) → 1 ≤ needed (row ∷ rows)
unfolding needed
needed-some row rows = omega arith

count-some : (row : Row) (rows : List Row) → 1 ≤ weight_of one (row ∷ rows)
unfolding weight_of
count-some row rows = omega arith

bounded_one : (row : Row) → IsBounded (row ∷ [])
unfolding longest usage top_cost weight_of needed
bounded_one row h =
    let node = length-packed_le true row.0 (omega arith) in
    rw (tree_of-one row) (omega arith)

top_weight-cost : (value : Option (List ℕ)) → cost_of 0 (option_map length value) ≡ 50 + top_weight value_cost value
top_weight-cost None = refl
top_weight-cost (Some value) = refl

bounded_forks : (row next : Row) (rows : List Row) → common_prefix row (next ∷ rows) ≡ [] → ((x : ℕ) → IsBounded (below (x ∷ []) (row ∷ next ∷ rows))) → IsBounded (row ∷ next ∷ rows)
unfolding usage top_cost
bounded_forks row next rows e further h = go (row ∷ next ∷ rows) (tree_of-forks row next rows e) (needed-some row (next ∷ rows)) (count-some row (next ∷ rows)) further h
  where
    go : (rs : List Row) → tree_of rs ≡ branch (ends_here rs) (λ x. tree_of (below (x ∷ []) rs)) → 1 ≤ needed rs → 1 ≤ weight_of one rs → ((x : ℕ) → IsBounded (below (x ∷ []) rs)) → IsBounded rs
    go rs t deep some each short =
        let depth : ℕ = (needed rs - 1) * node_cost in
        let values : ℕ → ℕ = λ x. weight_of value_cost (below (x ∷ []) rs) in
        let counts : ℕ → ℕ = λ x. weight_of one (below (x ∷ []) rs) in
        let child : (x : ℕ) → usage (tree_of (below (x ∷ []) rs)) ≤ values x + counts x * depth = λ x.
        let shorter = longest-below (x ∷ []) rs in
        let bound = each x (omega arith) in
        let flat = less_deep (counts x) (needed (below (x ∷ []) rs)) (needed rs) (needed-below x [] rs) in
        omega arith in
        let kids = sum_below-le (λ x. usage (tree_of (below (x ∷ []) rs))) (λ x. values x + counts x * depth) 16 child in
        let sums = sum_below-add_mul values counts depth 16 in
        let all_values = weight_of-nibbles value_cost rs in
        let all_counts = weight_of-nibbles one rs in
        let fewer : sum_below counts 16 * depth ≤ weight_of one rs * depth = mul-le-mul_right depth (omega arith) in
        let step = one_step (weight_of one rs) (needed rs) some deep in
        let top = top_weight-cost (ends_here rs) in
        rw t (omega arith)

bounded_shares : (row next : Row) (rows : List Row) (x : ℕ) (prefix : List ℕ) → common_prefix row (next ∷ rows) ≡ x ∷ prefix → IsBounded (below (x ∷ prefix) (row ∷ next ∷ rows)) → IsBounded (row ∷ next ∷ rows)
unfolding usage top_cost
bounded_shares row next rows x prefix e further short =
    let rs : List Row = row ∷ next ∷ rows in
    let all = subst (λ (f : List ℕ). AllHavePrefix f rs) e (common_prefix-all row (next ∷ rows)) in
    let path : length (x ∷ prefix) ≤ longest_path = prefix_length (x ∷ prefix) row (next ∷ rows) all.0 short in
    let node = length-packed_le false (x ∷ prefix) path in
    let shorter = longest-below (x ∷ prefix) rs in
    let bound = further (omega arith) in
    let values = weight_of-below value_cost (x ∷ prefix) rs in
    let counts = weight_of-below one (x ∷ prefix) rs in
    let flat = less_deep (weight_of one (below (x ∷ prefix) rs)) (needed (below (x ∷ prefix) rs)) (needed rs) (needed-below x prefix rs) in
    let fewer : weight_of one (below (x ∷ prefix) rs) * ((needed rs - 1) * node_cost) ≤ weight_of one rs * ((needed rs - 1) * node_cost) = mul-le-mul_right ((needed rs - 1) * node_cost) counts in
    let step = one_step (weight_of one rs) (needed rs) (count-some row (next ∷ rows)) (needed-some row (next ∷ rows)) in
    rw (tree_of-shares row next rows x prefix e) (omega arith)

pub usage-tree_of-le : (rows : List Row) → longest rows ≤ longest_path → usage (tree_of rows) ≤ weight_of value_cost rows + weight_of one rows * (needed rows * node_cost)
unfolding usage
usage-tree_of-le = by_cases IsBounded (record {
  none = λ h. rw tree_of-nil (omega arith);
  one = bounded_one;
  forks = bounded_forks;
  shares = bounded_shares;
})

-- ---- of a state

costs_of : (pairs : List Pair) → AllByRecursion IsPair pairs → weight_of value_cost (rows_of_pairs pairs) ≤ length pairs * 4194354
unfolding weight_of
costs_of [] h = omega arith
costs_of (pair ∷ pairs) h =
    let further = costs_of pairs h.1 in
    let value = h.0.value_length in
    omega arith

longest-pairs : (pairs : List Pair) → AllByRecursion IsPair pairs → longest (rows_of_pairs pairs) ≤ longest_path
unfolding longest
longest-pairs [] h = omega arith
longest-pairs (pair ∷ pairs) h =
    let further = longest-pairs pairs h.1 in
    let key = h.0.key_length in
    let path = length-nibbles pair.0 in
    omega arith

counts_of : (pairs : List Pair) → weight_of one (rows_of_pairs pairs) ≡ length pairs
counts_of pairs = weight_of-one (rows_of_pairs pairs) ∙ length-map pairs _

usage_of_pairs : (pairs : List Pair) → AllByRecursion IsPair pairs → length pairs ≤ 2 ^ 32 → (place : List ℕ) → usage (tree_of (below place (rows_of_pairs pairs))) < 2 ^ 60
usage_of_pairs pairs h few place =
    let rows = rows_of_pairs pairs in
    let below_rows = below place rows in
    let short = longest-pairs pairs h in
    let shorter = longest-below place rows in
    let bound = usage-tree_of-le below_rows (omega arith) in
    let costs = costs_of pairs h in
    let fewer_costs = weight_of-below value_cost place rows in
    let count = counts_of pairs in
    let fewer = weight_of-below one place rows in
    let depth = needed-longest below_rows in
    let steps : needed below_rows * node_cost ≤ suc longest_path * node_cost = (let most : needed below_rows ≤ suc longest_path = omega arith in mul-le-mul_right node_cost most) in
    let few_rows : weight_of one below_rows ≤ 2 ^ 32 = omega arith in
    let nodes : weight_of one below_rows * (needed below_rows * node_cost) ≤ 2 ^ 32 * (suc longest_path * node_cost) = mul-le-mul few_rows steps in
    omega arith

pub usage-lt : (state : State) → IsState state → (place : List ℕ) → usage (subtree_at state place) < 2 ^ 60
unfolding subtree_at rows_of
usage-lt state is place = usage_of_pairs (entries state) is.pairs is.few place
