-- Rows that keep to what a state's rows keep to, and what may be written of their trie's top.
use Rattle.std.proofs.Common.{◌≡◌, ◌≢◌, ℕ, ◌≤◌, List, [], ◌∷◌, length, Option, None, Some, IfSome, is_some, option_map, if◌then◌else◌, refl, sym, ◌∙◌, ap, subst, arith}
use Rattle.std.specs.Prelude.{⊤}
use Rattle.std.specs.List.{AllByRecursion}
use Rattle.std.specs.FinMap.{entries}
use Rattle.std.proofs.lemmas.List.{length-append}
use Rattle.byte_model.specs.Nibbles.{AreNibbles}
use Rattle.byte_model.specs.PackedPath.{longest_path}
use Rattle.byte_model.specs.Node as node
use Rattle.byte_model.specs.Node.{Node, IsShaped, child_count, longest_value, ValueRef as ValueOfRecord}
use Rattle.byte_model.specs.Laws.{FitsRecord}
use Rattle.byte_model.proofs.Digits.{length-nibbles}
use Rattle.trie_model.specs.Grown.{AllHavePrefix}
use Rattle.trie_model.specs.State.{State, Row, IsPair, IsState, rows_of}
use Rattle.trie_model.specs.Tree.{Tree, nothing, leaf, branch, extension, below, ends_here, common_prefix, tree_of}
use Rattle.trie_model.specs.Texts.{node_of, text, name_of, value_ref}
use Rattle.byte_model.proofs.Below.{sum_below-agree}
use Rattle.trie_model.proofs.Order.{RisingRows, rising-below, rising-rows_of, all-below}
use Rattle.trie_model.proofs.Pairs.{Small, small-below, small-rows_of}
use Rattle.trie_model.proofs.Rests.{common_prefix-all}
use Rattle.trie_model.proofs.Shapes.{ShortValues, short-below, short-rows_of, sound_nodes}
use Rattle.trie_model.proofs.Trees.{length-rest_behind, tree_of-nil, tree_of-one, tree_of-forks, tree_of-shares}
use Rattle.trie_model.proofs.Worked.{Pair, rows_of_pairs}
use Rattle.trie_shape.specs.Runs.{DoFork}
use Rattle.trie_shape.specs.Shows.{child_of, IsBranchOf}

abbrev pub HasShortPath : Row → Type 0
HasShortPath row = length row.0 ≤ longest_path

-- paths of nibbles that rise, and both path and value within their limits
pub record AreSound (rows : List Row) : Type 0 where
  pub rise : RisingRows rows
  pub nibbles : Small rows
  pub paths : AllByRecursion HasShortPath rows
  pub values : ShortValues rows

-- ---- the rows of a state, and those below a place

short_pairs : (pairs : List Pair) → AllByRecursion IsPair pairs → AllByRecursion HasShortPath (rows_of_pairs pairs)
short_pairs [] h = tt
short_pairs (pair ∷ pairs) h = (let n = length-nibbles pair.0 in let k = h.0.key_length in omega arith, short_pairs pairs h.1)

short_paths : (state : State) → IsState state → AllByRecursion HasShortPath (rows_of state)
unfolding rows_of
short_paths state is = short_pairs (entries state) is.pairs

pub sound-below : (prefix : List ℕ) (rows : List Row) → AreSound rows → AreSound (below prefix rows)
sound-below prefix rows h = record {
  rise = rising-below prefix rows h.rise;
  nibbles = small-below prefix rows h.nibbles;
  paths = all-below HasShortPath HasShortPath prefix (λ row rest e short. let shorter = length-rest_behind prefix row.0 rest e in omega arith) rows h.paths;
  values = short-below prefix rows h.values;
}

pub sound-rows_of : (state : State) → IsState state → AreSound (rows_of state)
sound-rows_of state is = record { rise = rising-rows_of state; nibbles = small-rows_of state is; paths = short_paths state is; values = short-rows_of state is }

-- ---- the top of their trie

-- the path of the node there
abbrev pub top_path : Tree → List ℕ
top_path nothing = []
top_path (leaf path value) = path
top_path (branch value kids) = []
top_path (extension path child) = path

abbrev HasNode : Tree → Type 0
HasNode tree = IfSome (node_of tree) (λ node. IsShaped node × FitsRecord node)

-- it is of nibbles and not too long, a value is not too long, and an extension is not empty
abbrev pub IsSound : Tree → Type 0
IsSound nothing = ⊤
IsSound (leaf path value) = AreNibbles path × (length path ≤ longest_path) × (length value ≤ longest_value)
IsSound (branch value kids) = ⊤
IsSound (extension path child) = AreNibbles path × (length path ≤ longest_path) × (path ≢ [])

short_top : (rows : List Row) → AllByRecursion HasShortPath rows → length (top_path (tree_of rows)) ≤ longest_path
short_top [] short = subst (λ tree. length (top_path tree) ≤ longest_path) (sym tree_of-nil) (omega arith)
short_top (row ∷ []) short = subst (λ tree. length (top_path tree) ≤ longest_path) (sym (tree_of-one row)) short.0
short_top (row ∷ next ∷ rows) short = go (common_prefix row (next ∷ rows)) refl
  where
    go : (prefix : List ℕ) → common_prefix row (next ∷ rows) ≡ prefix → length (top_path (tree_of (row ∷ next ∷ rows))) ≤ longest_path
    go [] e = subst (λ tree. length (top_path tree) ≤ longest_path) (sym (tree_of-forks row next rows e)) (omega arith)
    go (x ∷ prefix) e =
        let have = (subst (λ (f : List ℕ). AllHavePrefix f (row ∷ next ∷ rows)) e (common_prefix-all row (next ∷ rows))).0 in
        let whole = ap length have.1 ∙ length-append (x ∷ prefix) have.0 in
        let first = short.0 in
        subst (λ tree. length (top_path tree) ≤ longest_path) (sym (tree_of-shares row next rows x prefix e)) (omega arith)

sound_top : (tree : Tree) → HasNode tree → length (top_path tree) ≤ longest_path → IsSound tree
unfolding node_of
sound_top nothing fits short = tt
sound_top (leaf path value) fits short = (fits.1.0, short, fits.0)
sound_top (branch value kids) fits short = tt
sound_top (extension path child) fits short = (fits.1.0, short, fits.0)

pub sound-tree_of : (rows : List Row) → AreSound rows → IsSound (tree_of rows)
sound-tree_of rows h = sound_top (tree_of rows) (sound_nodes rows h.rise h.nibbles h.values) (short_top rows h.paths)

-- ---- the branch of rows that fork

pub tree-forks : (rows : List Row) → DoFork rows → tree_of rows ≡ branch (ends_here rows) (child_of rows)
tree-forks [] fork = absurd (let two = fork.several in omega arith)
tree-forks (row ∷ []) fork = absurd (let two = fork.several in omega arith)
tree-forks (row ∷ next ∷ rows) fork = tree_of-forks row next rows fork.apart

-- a shape is told by the sixteen children
shaped-agree : (value : Option ValueOfRecord) (kids others : ℕ → Option (List ℕ)) → child_count kids ≡ child_count others → IsShaped (node.branch value others) → IsShaped (node.branch value kids)
shaped-agree None kids others same h = omega arith
shaped-agree (Some value) kids others same h = (h.0, let one = h.1 in omega arith)

pub shaped-forks : (rows : List Row) → AreSound rows → (value : Option ValueOfRecord) (kids : ℕ → Option (List ℕ)) (used : ℕ) → IsBranchOf rows value kids used → IsShaped (node.branch value kids)
unfolding node_of
shaped-forks rows sound value kids used is =
    let others = λ (x : ℕ). name_of (child_of rows x) (text (child_of rows x)) in
    let fits = subst HasNode (tree-forks rows is.fork) (sound_nodes rows sound.rise sound.nibbles sound.values) in
    let count = sum_below-agree (λ x. if is_some (kids x) then 1 else 0) (λ x. if is_some (others x) then 1 else 0) 16 (λ x h. ap (λ (child : Option (List ℕ)). if is_some child then 1 else 0) (is.children.named x h)) in
    subst (λ (v : Option ValueOfRecord). IsShaped (node.branch v kids)) (sym is.ends) (shaped-agree (option_map value_ref (ends_here rows)) kids others count fits.0)
