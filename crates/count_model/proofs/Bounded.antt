-- A state has at most four texts for each pair, so counts stay small.
use Rattle.std.proofs.Common.{◌≡◌, ℕ, zero, suc, ◌+◌, ◌-◌, ◌*◌, ◌^◌, ◌≤◌, ◌&&◌, not, nat_eq, Bool, true, false, cond, List, [], ◌∷◌, ◌++◌, length, map, Option, None, Some, option_map, is_some, refl, sym, ◌∙◌, ap, ap₂, subst, arith, length-append, mul-le-mul_right}
use Rattle.std.specs.List.{AllByRecursion, sum_by}
use Rattle.std.specs.Cmp.Lexicographic.{pointwise}
use Rattle.std.proofs.lemmas.List.{length-map}
use Rattle.std.proofs.lemmas.List.Sums.{count_by-le-length}
use Rattle.std.specs.FinMap.{entries}
use mathlib.Core.Path.{fun_ext}
use Rattle.sha2.specs.Sha256.{sha256}
use Rattle.byte_model.specs.Nibbles.{nibbles}
use Rattle.byte_model.specs.Below.{sum_below, joined_below}
use Rattle.byte_model.proofs.Below.{sum_below-le}
use Rattle.byte_model.specs.Node as node
use Rattle.byte_model.specs.Node.{IsShaped, ValueRef, child_count}
use Rattle.record_model.specs.Fits.{has_place}
use Rattle.trie_model.specs.State.{State, IsState, Row, rows_of}
use Rattle.trie_model.specs.Tree.{Tree, nothing, leaf, branch, extension}
use Rattle.trie_model.specs.Grown.{here, under}
use Rattle.trie_model.specs.Texts.{behind, name_of, node_of, places, text, value_ref}
use Rattle.trie_model.specs.Root.{digest_occurrences, occurrences, places_of, subtree_at, text_at, texts_of}
use Rattle.trie_model.proofs.Costs.{subtree_at-root}
use Rattle.trie_model.proofs.Order.{rising-rows_of}
use Rattle.trie_model.proofs.Pairs.{held, held-tree_of, small-rows_of}
use Rattle.trie_model.proofs.Members.{IsIn, all_at, all_of}
use Rattle.fork_model.specs.Trees.{Header, ids_of}
use Rattle.fork_model.specs.States.{Block, ForkState, IsForkState, state_at, tree_of_blocks}
use Rattle.count_model.specs.Counts.{Measure, count, counted, digest_count, in_state, of_digest, of_text, prev_state_at, rise}
use Rattle.count_model.specs.Tables.{AreStates}
use Rattle.count_model.proofs.Sums.{sum_by-bound}
use Rattle.count_model.proofs.Counted.{counted-all}
use Rattle.count_model.proofs.Live.{block-in, block-of_state}
use Rattle.visit_model.proofs.ShownFits.{FitsBelow, IsThere, state_fits}

-- ---- lists joined

length-joined_below : {X : Type 0} (f : ℕ → List X) (n : ℕ) → length (joined_below f n) ≡ sum_below (λ x. length (f x)) n
unfolding joined_below sum_below
length-joined_below f zero = refl
length-joined_below f (suc n) = length-append (joined_below f n) (f n) ∙ ap (λ m. m + length (f n)) (length-joined_below f n)

sum_below-two : (a b : ℕ → ℕ) (n : ℕ) → sum_below (λ x. a x + 2 * b x) n ≡ sum_below a n + 2 * sum_below b n
unfolding sum_below
sum_below-two a b zero = refl
sum_below-two a b (suc n) = let further = sum_below-two a b n in omega (arith, further)

sum_below-three : (a : ℕ → ℕ) (n : ℕ) → sum_below (λ x. 3 * a x) n ≡ 3 * sum_below a n
unfolding sum_below
sum_below-three a zero = refl
sum_below-three a (suc n) = let further = sum_below-three a n in omega (arith, further)

-- ---- places and pairs of a tree

abbrev size : Tree → ℕ
size tree = length (places tree)

abbrev pairs : Tree → ℕ
pairs tree = length (held tree)

size-branch : (value : Option (List ℕ)) (kids : ℕ → Tree) → size (branch value kids) ≡ suc (sum_below (λ x. size (kids x)) 16)
unfolding places
size-branch value kids =
    ap suc (length-joined_below (λ x. behind (x ∷ []) (places (kids x))) 16
    ∙ ap (λ f. sum_below f 16) (fun_ext (λ x. length-map (places (kids x)) (λ path. (x ∷ []) ++ path))))

pairs-branch : (value : Option (List ℕ)) (kids : ℕ → Tree) → pairs (branch value kids) ≡ length (here value) + sum_below (λ x. pairs (kids x)) 16
unfolding held
pairs-branch value kids =
    length-append (here value) (joined_below (λ x. under (x ∷ []) (held (kids x))) 16)
    ∙ ap (λ m. length (here value) + m) (length-joined_below (λ x. under (x ∷ []) (held (kids x))) 16
    ∙ ap (λ f. sum_below f 16) (fun_ext (λ x. length-map (held (kids x)) (λ (row : Row). ((x ∷ []) ++ row.0, row.1)))))

size-extension : (path : List ℕ) (child : Tree) → size (extension path child) ≡ suc (size child)
unfolding places
size-extension path child = ap suc (length-map (places child) (λ p. path ++ p))

pairs-extension : (path : List ℕ) (child : Tree) → pairs (extension path child) ≡ pairs child
unfolding held
pairs-extension path child = length-map (held child) (λ (row : Row). (path ++ row.0, row.1))

-- ---- three places for each pair

-- below an extension stands a branch, which leaves one place more
abbrev room : Bool → ℕ
room true = 3
room false = 2

Fewer : Bool → Tree → Type 0
Fewer after_extension tree = size tree + room after_extension ≤ 3 * pairs tree

-- whether a child is there, by its name
abbrev there : Tree → ℕ
there tree = cond (is_some (name_of tree (text tree))) 1 0

two_parts : (value : Option (List ℕ)) (kids : ℕ → Option (List ℕ)) → IsShaped (node.branch (option_map value_ref value) kids) → 2 ≤ child_count kids + length (here value)
two_parts None kids shaped = omega (arith, shaped)
two_parts (Some value) kids shaped = let enough = shaped.1 in omega (arith, enough)

not_after : (t s : Bool) → (t && (s && not true)) ≡ true → ⊥
not_after true true e = cc
not_after true false e = cc
not_after false s e = cc

module _ where
  kid_fewer : (depth : ℕ) (kid : Tree) → FitsBelow depth false kid → (FitsBelow depth false kid → IsThere kid → Fewer false kid) → size kid + 2 * there kid ≤ 3 * pairs kid
  unfolding name_of Fewer places held
  kid_fewer depth nothing fits fewer = omega arith
  kid_fewer depth (leaf path value) fits fewer = fewer fits tt
  kid_fewer depth (branch value kids) fits fewer = fewer fits tt
  kid_fewer depth (extension path child) fits fewer = fewer fits tt

  branch_sums : (top held_here kids names rows : ℕ) → kids + 2 * names ≤ 3 * rows → 2 ≤ names + held_here → held_here ≤ 1 → top ≡ suc kids → top + 3 ≤ 3 * (held_here + rows)
  branch_sums top held_here kids names rows sums parts one e = omega (arith, sums, parts, one, e)

  one_here : (value : Option (List ℕ)) → length (here value) ≤ 1
  one_here None = omega arith
  one_here (Some value) = omega arith

  any_room : (after_extension : Bool) (n m : ℕ) → n + 3 ≤ m → n + room after_extension ≤ m
  any_room true n m h = h
  any_room false n m h = omega (arith, h)

  fewer-branch : (depth : ℕ) (after_extension : Bool) (value : Option (List ℕ)) (kids : ℕ → Tree) → FitsBelow depth after_extension (branch value kids) → ((x : ℕ) → FitsBelow (depth + 1) false (kids x) → IsThere (kids x) → Fewer false (kids x)) → Fewer after_extension (branch value kids)
  unfolding Fewer node_of
  fewer-branch depth after_extension value kids fits each =
      let sums = sum_below-le (λ x. size (kids x) + 2 * there (kids x)) (λ x. 3 * pairs (kids x)) 16 (λ x. kid_fewer (depth + 1) (kids x) (fits.1 x) (each x)) in
      let left = sum_below-two (λ x. size (kids x)) (λ x. there (kids x)) 16 in
      let right = sum_below-three (λ x. pairs (kids x)) 16 in
      let all : sum_below (λ x. size (kids x)) 16 + 2 * sum_below (λ x. there (kids x)) 16 ≤ 3 * sum_below (λ x. pairs (kids x)) 16 = omega (arith, sums, left, right) in
      any_room after_extension (size (branch value kids)) (3 * pairs (branch value kids))
      (subst (λ n. size (branch value kids) + 3 ≤ 3 * n) (sym (pairs-branch value kids))
      (branch_sums (size (branch value kids)) (length (here value)) (sum_below (λ x. size (kids x)) 16) (sum_below (λ x. there (kids x)) 16) (sum_below (λ x. pairs (kids x)) 16) all
      (two_parts value (λ x. name_of (kids x) (text (kids x))) fits.0.0.shape) (one_here value) (size-branch value kids)))

  fewer : (tree : Tree) (depth : ℕ) (after_extension : Bool) → FitsBelow depth after_extension tree → IsThere tree → Fewer after_extension tree
  unfolding Fewer node_of has_place places held
  fewer nothing depth after_extension fits is = absurd is
  fewer (leaf path value) depth true fits is = absurd (not_after _ _ fits.1)
  fewer (leaf path value) depth false fits is = omega arith
  fewer (branch value kids) depth after_extension fits is = fewer-branch depth after_extension value kids fits (λ x f there. fewer (kids x) (depth + 1) false f there)
  fewer (extension path child) depth true fits is = absurd (not_after _ _ fits.0.1)
  fewer (extension path child) depth false fits is =
      let below = fewer child (depth + length path) true fits.1 fits.2 in
      let e = size-extension path child in
      let f = pairs-extension path child in
      omega (arith, below, e, f)

-- ---- texts of a state

few : (tree : Tree) → FitsBelow 0 false tree → size tree ≤ 3 * pairs tree
unfolding Fewer places held
few nothing fits = omega arith
few (leaf path value) fits = let h = fewer (leaf path value) 0 false fits tt in omega (arith, h)
few (branch value kids) fits = let h = fewer (branch value kids) 0 false fits tt in omega (arith, h)
few (extension path child) fits = let h = fewer (extension path child) 0 false fits tt in omega (arith, h)

count_rows : (state : State) → length (rows_of state) ≡ length (entries state)
unfolding rows_of
count_rows state = length-map (entries state) (λ (pair : List ℕ × List ℕ). (nibbles pair.0, pair.1))

pub texts-few : (state : State) → IsState state → length (texts_of state) ≤ 4 * length (entries state)
unfolding texts_of
texts-few state is =
    let whole : length (map (text_at state) (places_of state) ++ map (λ (row : Row). row.1) (rows_of state)) ≡ length (places_of state) + length (rows_of state)
    = length-append (map (text_at state) (places_of state)) (map (λ (row : Row). row.1) (rows_of state)) ∙ ap₂ (λ (a b : ℕ). a + b) (length-map (places_of state) (text_at state)) (length-map (rows_of state) (λ (row : Row). row.1)) in
    let rows : length (rows_of state) ≡ length (entries state) = count_rows state in
    let kept : pairs (subtree_at state []) ≡ length (rows_of state) = ap pairs (subtree_at-root state) ∙ ap length (held-tree_of (rows_of state) (rising-rows_of state) (small-rows_of state is)) in
    let most = few (subtree_at state []) (state_fits state is) in
    omega (arith, whole, rows, kept, most)

pub occurrences-few : (state : State) (t : List ℕ) → IsState state → occurrences state t ≤ 4 * length (entries state)
occurrences-few state t is =
    let all = texts-few state is in
    let some = count_by-le-length (λ other. pointwise nat_eq other t) (texts_of state) in
    omega (arith, all, some)

pub digest_occurrences-few : (state : State) (digest : List ℕ) → IsState state → digest_occurrences state digest ≤ 4 * length (entries state)
digest_occurrences-few state digest is =
    let all = texts-few state is in
    let some = count_by-le-length (λ other. pointwise nat_eq (sha256 other) digest) (texts_of state) in
    omega (arith, all, some)

-- ---- counts

module _ (measure : Measure) (bound : ℕ) (forks : ForkState) (is : IsForkState forks) (each : (b : Block) → IsIn forks.blocks b → measure b.state ≤ bound) where
  in_state-few : (q : List ℕ) → in_state measure (state_at forks q) ≤ bound
  in_state-few q = by_case (state_at forks q) refl
    where
      by_case : (o : Option State) → state_at forks q ≡ o → in_state measure o ≤ bound
      by_case None e = omega arith
      by_case (Some s) e = let b = block-of_state forks q s e in subst (λ (x : State). measure x ≤ bound) b.2 (each b.0 (block-in forks q b.0 b.1))

  rise-few : (q : List ℕ) → rise measure forks q ≤ bound
  unfolding rise
  rise-few q = less (in_state measure (state_at forks q)) (in_state measure (prev_state_at forks q)) (in_state-few q)
    where
      less : (here former : ℕ) → here ≤ bound → here - former ≤ bound
      less here former h = omega (arith, h)

  pub counted-few : counted measure forks ≤ length forks.blocks * bound
  counted-few =
      let ids : List (List ℕ) = ids_of (tree_of_blocks forks).blocks in
      let live : length ids ≡ length forks.blocks = length-map (tree_of_blocks forks).blocks (λ (h : Header). h.id) ∙ length-map forks.blocks (λ (b : Block). b.header) in
      subst (λ n. n ≤ length forks.blocks * bound) (sym (counted-all measure forks is))
      (subst (λ n. sum_by (rise measure forks) ids ≤ n * bound) live (sum_by-bound (rise measure forks) bound ids (λ q i. rise-few q)))

-- of the states of live blocks, where each has at most so many pairs
module _ (most : ℕ) (forks : ForkState) (is : IsForkState forks) (are : AreStates forks) (pairs_few : AllByRecursion (λ block. length (entries block.state) ≤ most) forks.blocks) where
  fourfold : (measure : Measure) → ((state : State) → IsState state → measure state ≤ 4 * length (entries state)) → (b : Block) → IsIn forks.blocks b → measure b.state ≤ 4 * most
  fourfold measure each b i =
      let here = each b.state (all_at (λ block. IsState block.state) forks.blocks b are i) in
      let pairs = all_at (λ block. length (entries block.state) ≤ most) forks.blocks b pairs_few i in
      omega (arith, here, pairs)

  pub count-few : (t : List ℕ) → count forks t ≤ length forks.blocks * (4 * most)
  count-few t = counted-few (of_text t) (4 * most) forks is (fourfold (of_text t) (λ state. occurrences-few state t))

  pub digest_count-few : (digest : List ℕ) → digest_count forks digest ≤ length forks.blocks * (4 * most)
  digest_count-few digest = counted-few (of_digest digest) (4 * most) forks is (fourfold (of_digest digest) (λ state. digest_occurrences-few state digest))

-- of up to 4,096 live blocks
few_pairs : (forks : ForkState) → AreStates forks → AllByRecursion (λ block. length (entries block.state) ≤ 2 ^ 32) forks.blocks
few_pairs forks are = all_of (λ block. length (entries block.state) ≤ 2 ^ 32) forks.blocks (λ b i. (all_at (λ block. IsState block.state) forks.blocks b are i).few)

far_below : (n live : ℕ) → live ≤ 4096 → n ≤ live * (4 * 2 ^ 32) → n ≤ 2 ^ 46
far_below n live few h =
    let most : live * (4 * 2 ^ 32) ≤ 4096 * (4 * 2 ^ 32) = mul-le-mul_right (4 * 2 ^ 32) few in
    omega (arith, most, h)

pub count-small : (forks : ForkState) (t : List ℕ) → IsForkState forks → AreStates forks → length forks.blocks ≤ 4096 → count forks t ≤ 2 ^ 46
count-small forks t is are few = far_below (count forks t) (length forks.blocks) few (count-few (2 ^ 32) forks is are (few_pairs forks are) t)

pub digest_count-small : (forks : ForkState) (digest : List ℕ) → IsForkState forks → AreStates forks → length forks.blocks ≤ 4096 → digest_count forks digest ≤ 2 ^ 46
digest_count-small forks digest is are few = far_below (digest_count forks digest) (length forks.blocks) few (digest_count-few (2 ^ 32) forks is are (few_pairs forks are) digest)
