-- The nodes of a state's trie fit where they stand.
use Rattle.std.proofs.Common.{◌≡◌, ℕ, ◌+◌, ◌^◌, ◌%◌, ◌<◌, ◌≤◌, ◌==◌, ◌&&◌, not, nat_lt, nat_le, Bool, true, false, List, [], ◌∷◌, ◌++◌, length, Option, None, Some, IfSome, option_map, refl, sym, ◌∙◌, ap, subst, arith, append-nil}
use Rattle.std.specs.Prelude.{⊤}
use Rattle.std.specs.List.{AllByRecursion}
use Rattle.std.specs.FinMap.{entries}
use Rattle.std.proofs.lemmas.Bool.{and_from, and_parts}
use Rattle.std.proofs.lemmas.Bool.Decides.{nat_tests}
use Rattle.std.proofs.lemmas.List.{append_cancel_left}
use Rattle.byte_model.specs.PackedPath.{longest_path, packed}
use Rattle.byte_model.specs.Node as node
use Rattle.byte_model.specs.Node.{Node, IsShaped, spelled}
use Rattle.byte_model.specs.Laws.{FitsRecord}
use Rattle.byte_model.proofs.Digits.{length-nibbles}
use Rattle.byte_model.proofs.Paths.{length-packed}
use Rattle.record_model.specs.Records.{IsRecord, HasShortPath, has_shape}
use Rattle.record_model.proofs.Nodes.{shape_only}
use Rattle.record_model.specs.Fits.{fits_at, has_place, is_whole}
use Rattle.trie_model.specs.State.{State, Row, IsPair, IsState, rows_of}
use Rattle.trie_model.specs.Tree.{Tree, nothing, leaf, branch, extension, rest_behind, below, ends_here, common_prefix, tree_of}
use Rattle.trie_model.specs.Texts.{text, usage, node_of, value_ref}
use Rattle.trie_model.specs.Root.{subtree_at}
use Rattle.trie_model.proofs.Worked.{Pair, rows_of_pairs}
use Rattle.trie_model.proofs.Rests.{under, under-below, AllHavePrefix, common_prefix-all, below-nil, below-append}
use Rattle.trie_model.proofs.Trees.{length-rest_behind, tree_of-nil, tree_of-one, tree_of-forks, tree_of-shares, by_cases}
use Rattle.trie_model.proofs.Order.{Before, RisingRows, rising-below, rising-rows_of, all-below}
use Rattle.trie_model.proofs.Pairs.{from_before, from_empty, Small, small-below, small-rows_of}
use Rattle.trie_model.proofs.Growth.{common_prefix-under}
use Rattle.trie_model.proofs.Costs.{text-node_of, subtree_at-root}
use Rattle.trie_model.proofs.Shapes.{ShortValues, short-below, short-rows_of, sound_nodes}
use Rattle.trie_model.proofs.Bounds.{usage-lt}

-- ---- trees that fit

abbrev pub IsThere : Tree → Type 0
IsThere nothing = ⊥
IsThere (leaf path value) = ⊤
IsThere (branch value kids) = ⊤
IsThere (extension path child) = ⊤

-- the node at the top of a tree has a record, and fits below so many nibbles
abbrev pub TopFits : ℕ → Bool → Tree → Type 0
TopFits depth after_extension tree = IfSome (node_of tree) (λ n. IsRecord n (usage tree) (text tree) × (fits_at depth after_extension n ≡ true))

-- and so does each node below it
abbrev pub FitsBelow : ℕ → Bool → Tree → Type 0
FitsBelow depth after_extension nothing = ⊤
FitsBelow depth after_extension (leaf path value) = TopFits depth after_extension (leaf path value)
FitsBelow depth after_extension (branch value kids) = TopFits depth after_extension (branch value kids) × ((x : ℕ) → FitsBelow (depth + 1) false (kids x)) × ((x : ℕ) → 16 ≤ x → kids x ≡ nothing)
FitsBelow depth after_extension (extension path child) = TopFits depth after_extension (extension path child) × FitsBelow (depth + length path) true child × IsThere child

-- ---- from a shape and a place to a record that fits

short_test : (depth : ℕ) (path : List ℕ) → nat_le (depth + length path) longest_path ≡ true → length path ≤ longest_path
short_test depth path test = grind (arith, nat_tests)

lower_test : (depth : ℕ) (path : List ℕ) → nat_lt (depth + length path) longest_path ≡ true → length path ≤ longest_path
lower_test depth path test = grind (arith, nat_tests)

packed_fits : (ends : Bool) (path : List ℕ) → length path ≤ longest_path → length (packed ends path) < 2 ^ 32
packed_fits ends path short = let n = length-packed ends path in omega arith

-- a path that fits has a short record
path_fits : (depth : ℕ) (after_extension : Bool) (n : Node) → has_place depth after_extension n ≡ true → HasShortPath n
unfolding has_place
path_fits depth after_extension (node.leaf path value) place =
    let ends = and_parts (is_whole (depth + length path) && nat_le (depth + length path) longest_path) (not after_extension) place in
    let short = and_parts (is_whole (depth + length path)) (nat_le (depth + length path) longest_path) ends.0 in
    packed_fits true path (short_test depth path short.1)
path_fits depth after_extension (node.branch value kids) place = tt
path_fits depth after_extension (node.extension path child) place =
    let short = and_parts (nat_lt (depth + length path) longest_path) (not after_extension) place in
    packed_fits false path (lower_test depth path short.0)

-- what four facts on the value of an option give
IfSome-from : {X : Type 0} (o : Option X) (P Q R S : X → Type 0) → ((x : X) → P x → Q x → R x → S x) → IfSome o P → IfSome o Q → IfSome o R → IfSome o S
IfSome-from None P Q R S from p q r = tt
IfSome-from (Some x) P Q R S from p q r = from x p q r

abbrev HasPlace : ℕ → Bool → Tree → Type 0
HasPlace depth after_extension tree = IfSome (node_of tree) (λ n. has_place depth after_extension n ≡ true)

top_fits : (depth : ℕ) (after_extension : Bool) (tree : Tree) → IfSome (node_of tree) (λ n. IsShaped n × FitsRecord n) → usage tree < 2 ^ 64 → HasPlace depth after_extension tree → TopFits depth after_extension tree
top_fits depth after_extension tree sound small place =
    IfSome-from (node_of tree) (λ n. IsShaped n × FitsRecord n) (λ n. text tree ≡ spelled n (usage tree)) (λ n. has_place depth after_extension n ≡ true) (λ n. IsRecord n (usage tree) (text tree) × (fits_at depth after_extension n ≡ true))
    (λ n is spelling at. (record { spelling = spelling; fields = is.1; path = path_fits depth after_extension n at; usage_fits = small; shape = is.0 }, and_from (has_shape n) (has_place depth after_extension n) (shape_only n is.0) at))
    sound (text-node_of tree) place

-- ---- rows that stand below so many nibbles

-- the key ends at a whole byte and within its length
record EndsWell (depth : ℕ) (row : Row) : Type 0 where
  short : depth + length row.0 ≤ longest_path
  whole : (depth + length row.0) % 2 ≡ 0

-- what stands below an extension is a branch
abbrev IsForked : Bool → List Row → Type 0
IsForked false rows = ⊤
IsForked true [] = ⊥
IsForked true (row ∷ []) = ⊥
IsForked true (row ∷ next ∷ rows) = common_prefix row (next ∷ rows) ≡ []

record Standing (depth : ℕ) (after_extension : Bool) (rows : List Row) : Type 0 where
  rising : RisingRows rows
  small : Small rows
  short : ShortValues rows
  ends : AllByRecursion (EndsWell depth) rows
  usages : (place : List ℕ) → usage (tree_of (below place rows)) < 2 ^ 64
  forked : IsForked after_extension rows

EndsWell-rest : (depth : ℕ) (prefix : List ℕ) (row : Row) (rest : List ℕ) → rest_behind prefix row.0 ≡ Some rest → EndsWell depth row → EndsWell (depth + length prefix) (rest, row.1)
EndsWell-rest depth prefix row rest e h =
    let n = length-rest_behind prefix row.0 rest e in
    record { short = omega arith; whole = omega arith }

-- further down
standing-below : (prefix : List ℕ) (depth : ℕ) (here there : Bool) (rows : List Row) → Standing depth here rows → IsForked there (below prefix rows) → Standing (depth + length prefix) there (below prefix rows)
standing-below prefix depth here there rows h forked = record {
  rising = rising-below prefix rows h.rising;
  small = small-below prefix rows h.small;
  short = short-below prefix rows h.short;
  ends = all-below (EndsWell depth) (EndsWell (depth + length prefix)) prefix (λ row rest e k. EndsWell-rest depth prefix row rest e k) rows h.ends;
  usages = λ place. subst (λ rs. usage (tree_of rs) < 2 ^ 64) (below-append prefix place rows) (h.usages (prefix ++ place));
  forked = forked;
}

-- a path behind another is not empty
some_after : (p q : List ℕ) → Before p q → 0 < length q
some_after [] q b = let r = from_empty q b in let n = ap length r.2 in omega arith
some_after (x ∷ p) q b = let r = from_before x p q b in let n = ap length r.2 in omega arith

-- where two rows stand there is room for a nibble
room_of_two : (depth : ℕ) (after_extension : Bool) (row next : Row) (rows : List Row) → Standing depth after_extension (row ∷ next ∷ rows) → depth < longest_path
room_of_two depth after_extension row next rows h =
    let some = some_after row.0 next.0 h.rising.0.0 in
    let short = h.ends.1.0.short in
    omega arith

room_of_forked : (depth : ℕ) (rows : List Row) → Standing depth true rows → depth < longest_path
room_of_forked depth [] h = absurd h.forked
room_of_forked depth (row ∷ []) h = absurd h.forked
room_of_forked depth (row ∷ next ∷ rows) h = room_of_two depth true row next rows h

-- a key that ends here ends at a whole byte
ends_here-whole : (depth : ℕ) (rows : List Row) → AllByRecursion (EndsWell depth) rows → IfSome (ends_here rows) (λ value. depth % 2 ≡ 0)
unfolding ends_here
ends_here-whole depth [] h = tt
ends_here-whole depth (([], value) ∷ rows) h = let whole = h.0.whole in omega arith
ends_here-whole depth ((x ∷ path, value) ∷ rows) h = ends_here-whole depth rows h.1

-- no row is below a number that is no nibble
none_past : (x : ℕ) → 16 ≤ x → (rows : List Row) → Small rows → below (x ∷ []) rows ≡ []
unfolding below rest_behind
none_past x past [] small = refl
none_past x past (([], value) ∷ rows) small = none_past x past rows small.1
none_past x past ((y ∷ path, value) ∷ rows) small =
    let nibble : y < 16 = small.0.0 in
    let test : (x == y) ≡ false = grind (arith, nat_tests) in
    rw test (none_past x past rows small.1)

-- ---- rows below the prefix that they share

-- the prefix that some rows share
abbrev shared_prefix : List Row → List ℕ
shared_prefix [] = []
shared_prefix (row ∷ rows) = common_prefix row rows

no_more : (prefix : List ℕ) (p : List ℕ) → prefix ++ p ≡ prefix → p ≡ []
no_more prefix p e = append_cancel_left prefix p [] (e ∙ sym (append-nil prefix))

forked_under : (prefix : List ℕ) (rest : List Row) (row next : Row) (rows : List Row) → under prefix rest ≡ row ∷ next ∷ rows → common_prefix row (next ∷ rows) ≡ prefix → IsForked true rest
forked_under prefix [] row next rows same e = cc
forked_under prefix (one ∷ []) row next rows same e = cc
forked_under prefix (one ∷ two ∷ rest) row next rows same e = no_more prefix (common_prefix one (two ∷ rest)) (sym (common_prefix-under prefix one (two ∷ rest)) ∙ ap shared_prefix same ∙ e)

forked_below : (prefix : List ℕ) (row next : Row) (rows : List Row) → common_prefix row (next ∷ rows) ≡ prefix → IsForked true (below prefix (row ∷ next ∷ rows))
forked_below prefix row next rows e =
    let all = subst (λ (f : List ℕ). AllHavePrefix f (row ∷ next ∷ rows)) e (common_prefix-all row (next ∷ rows)) in
    forked_under prefix (below prefix (row ∷ next ∷ rows)) row next rows (under-below prefix (row ∷ next ∷ rows) all) e

-- ---- places

true_le : (m n : ℕ) → m ≤ n → nat_le m n ≡ true
true_le m n h = grind (arith, nat_tests)

true_lt : (m n : ℕ) → m < n → nat_lt m n ≡ true
true_lt m n h = grind (arith, nat_tests)

true_whole : (n : ℕ) → n % 2 ≡ 0 → is_whole n ≡ true
true_whole n h = grind (arith, nat_tests)

leaf_place : (depth : ℕ) (after_extension : Bool) (row : Row) → Standing depth after_extension (row ∷ []) → has_place depth after_extension (node.leaf row.0 (value_ref row.1)) ≡ true
unfolding has_place
leaf_place depth true row h = absurd h.forked
leaf_place depth false row h = rw (true_whole (depth + length row.0) h.ends.0.whole, true_le (depth + length row.0) longest_path h.ends.0.short) refl

branch_place : (depth : ℕ) (after_extension : Bool) (value : Option (List ℕ)) (kids : ℕ → Option (List ℕ)) → depth < longest_path → IfSome value (λ v. depth % 2 ≡ 0) → has_place depth after_extension (node.branch (option_map value_ref value) kids) ≡ true
unfolding has_place
branch_place depth after_extension None kids room whole = true_lt depth longest_path room
branch_place depth after_extension (Some value) kids room whole = rw (true_lt depth longest_path room, true_whole depth whole) refl

extension_place : (depth : ℕ) (after_extension : Bool) (path child : List ℕ) → depth + length path < longest_path → after_extension ≡ false → has_place depth after_extension (node.extension path child) ≡ true
unfolding has_place
extension_place depth after_extension path child room not_after = rw (true_lt (depth + length path) longest_path room, not_after) refl

not_after_extension : (after_extension : Bool) (row next : Row) (rows : List Row) (x : ℕ) (prefix : List ℕ) → common_prefix row (next ∷ rows) ≡ x ∷ prefix → IsForked after_extension (row ∷ next ∷ rows) → after_extension ≡ false
not_after_extension false row next rows x prefix e forked = refl
not_after_extension true row next rows x prefix e forked = cc

-- ---- the nodes of rows that stand so

rows_there : (rows : List Row) → IsForked true rows → IsThere (tree_of rows)
rows_there [] h = absurd h
rows_there (row ∷ []) h = absurd h
rows_there (row ∷ next ∷ rows) h = subst IsThere (sym (tree_of-forks row next rows h)) tt

standing_top : (depth : ℕ) (after_extension : Bool) (rows : List Row) → Standing depth after_extension rows → HasPlace depth after_extension (tree_of rows) → TopFits depth after_extension (tree_of rows)
standing_top depth after_extension rows h place =
    top_fits depth after_extension (tree_of rows) (sound_nodes rows h.rising h.small h.short) (subst (λ rs. usage (tree_of rs) < 2 ^ 64) (below-nil rows) (h.usages [])) place

abbrev FitsWhereItStands : List Row → Type 0
FitsWhereItStands rows = (depth : ℕ) (after_extension : Bool) → Standing depth after_extension rows → FitsBelow depth after_extension (tree_of rows)

leaf_fits : (row : Row) → FitsWhereItStands (row ∷ [])
unfolding node_of
leaf_fits row depth after_extension h =
    let t = tree_of-one row in
    let place : HasPlace depth after_extension (tree_of (row ∷ [])) = subst (HasPlace depth after_extension) (sym t) (leaf_place depth after_extension row h) in
    subst (FitsBelow depth after_extension) (sym t) (subst (TopFits depth after_extension) t (standing_top depth after_extension (row ∷ []) h place))

branch_fits : (row next : Row) (rows : List Row) → common_prefix row (next ∷ rows) ≡ [] → ((x : ℕ) → FitsWhereItStands (below (x ∷ []) (row ∷ next ∷ rows))) → FitsWhereItStands (row ∷ next ∷ rows)
unfolding node_of
branch_fits row next rows e further depth after_extension h =
    let rs : List Row = row ∷ next ∷ rows in
    let t = tree_of-forks row next rows e in
    let room = room_of_two depth after_extension row next rows h in
    let place : HasPlace depth after_extension (tree_of rs) = subst (HasPlace depth after_extension) (sym t) (branch_place depth after_extension (ends_here rs) _ room (ends_here-whole depth rs h.ends)) in
    subst (FitsBelow depth after_extension) (sym t) (
      subst (TopFits depth after_extension) t (standing_top depth after_extension rs h place),
      λ x. further x (depth + 1) false (standing-below (x ∷ []) depth after_extension false rs h tt),
      λ x past. ap tree_of (none_past x past rs h.small) ∙ tree_of-nil,
    )

extension_fits : (row next : Row) (rows : List Row) (x : ℕ) (prefix : List ℕ) → common_prefix row (next ∷ rows) ≡ x ∷ prefix → FitsWhereItStands (below (x ∷ prefix) (row ∷ next ∷ rows)) → FitsWhereItStands (row ∷ next ∷ rows)
unfolding node_of
extension_fits row next rows x prefix e further depth after_extension h =
    let rs : List Row = row ∷ next ∷ rows in
    let t = tree_of-shares row next rows x prefix e in
    let forked = forked_below (x ∷ prefix) row next rows e in
    let child = standing-below (x ∷ prefix) depth after_extension true rs h forked in
    let room = room_of_forked (depth + length (x ∷ prefix)) (below (x ∷ prefix) rs) child in
    let place : HasPlace depth after_extension (tree_of rs) = subst (HasPlace depth after_extension) (sym t) (extension_place depth after_extension (x ∷ prefix) _ room (not_after_extension after_extension row next rows x prefix e h.forked)) in
    subst (FitsBelow depth after_extension) (sym t) (
      subst (TopFits depth after_extension) t (standing_top depth after_extension rs h place),
      further (depth + length (x ∷ prefix)) true child,
      rows_there (below (x ∷ prefix) rs) forked,
    )

rows_fit : (rows : List Row) → FitsWhereItStands rows
rows_fit = by_cases FitsWhereItStands (record {
  none = λ depth after_extension h. subst (FitsBelow depth after_extension) (sym tree_of-nil) tt;
  one = leaf_fits;
  forks = branch_fits;
  shares = extension_fits;
})

-- ---- of a state

pairs_end : (pairs : List Pair) → AllByRecursion IsPair pairs → AllByRecursion (EndsWell 0) (rows_of_pairs pairs)
pairs_end [] h = tt
pairs_end (pair ∷ pairs) h =
    let key = h.0.key_length in
    let path = length-nibbles pair.0 in
    (record { short = omega arith; whole = omega arith }, pairs_end pairs h.1)

standing_rows : (state : State) → IsState state → Standing 0 false (rows_of state)
unfolding rows_of subtree_at
standing_rows state is = record {
  rising = rising-rows_of state;
  small = small-rows_of state is;
  short = short-rows_of state is;
  ends = pairs_end (entries state) is.pairs;
  usages = λ place. let small = usage-lt state is place in omega arith;
  forked = tt;
}

-- Each node of a state's trie has a record, and fits where it stands.
pub state_fits : (state : State) → IsState state → FitsBelow 0 false (subtree_at state [])
state_fits state is = subst (FitsBelow 0 false) (sym (subtree_at-root state)) (rows_fit (rows_of state) 0 false (standing_rows state is))
