-- What the laws say, from the lemmas of the other files.
use Rattle.std.proofs.Common.{◌≡◌, ◌≢◌, ◌≤◌, ◌<◌, ℕ, Bool, true, false, cond, ◌||◌, List, [], ◌∷◌, ◌++◌, length, reverse, Option, None, Some, IfSome, IsSome, is_some, refl, sym, ◌∙◌, ap, ap₂, subst, arith}
use Rattle.std.specs.Option.{option_map, unwrap_or, IsSomeAnd}
use Rattle.std.specs.List.{filter}
use Rattle.std.specs.List.Sorted.{IsPermutation}
use Rattle.std.specs.Str.{bytes_eq}
use Rattle.std.specs.FinMap.{empty}
use Rattle.std.proofs.lemmas.Bool.{false≢true}
use Rattle.std.proofs.lemmas.List.{length-append, reverse-append, reverse-reverse}
use Rattle.trie_model.specs.State.{State}
use Rattle.batch_model.specs.Changes.{Changes, after}
use Rattle.fork_model.specs.Trees.{AreGrown, BlockFault, BlockTree, Header, IsTree, after_block, after_move, block_fault, block_of, descends, dropped, grown_unless, ids_of, is_live, line, moved, passed, prev_of}
use Rattle.fork_model.specs.States.{Block, ForkState, IsForkState, after_head, after_offer, block_at, changes_at, head_moved, laid_along, state_at, tree_of_blocks, with_block_unless}
use Rattle.fork_model.specs.Laws.{first_id, ids_behind}
use Rattle.fork_model.proofs.Ids.{apart_from, apart_is, found-filter, found_not_none}
use Rattle.fork_model.proofs.Lines.{by_lines, stands_in, StandsIn, prev_from, head-live}
use Rattle.fork_model.proofs.Moves.{grown-is, moved-is}
use Rattle.fork_model.proofs.Descent.{descends-over}
use Rattle.fork_model.proofs.Faults.{accepted}
use Rattle.fork_model.proofs.Partition.{descends-from_head, filter-all, filter_found, moved-head, told_once}
use Rattle.fork_model.proofs.Passed.{line-passed, passed-head, passed-over, passed-onward}
use Rattle.fork_model.proofs.States.{after_offer-keeps, block_key, block_of-at, head_moved-keeps}

-- ---- what is live is found

pub found_live : {B : Type 0} (o : Option B) → is_some o ≡ true → (b : B) × (o ≡ Some b)
found_live None e = absurd (false≢true e)
found_live (Some b) e = (b, refl)

-- a block with a prev is live and not the head
pub record HasPrev (tree : BlockTree) (id prev : List ℕ) : Type 0 where
  pub block : Header
  pub is : block_of tree.blocks id ≡ Some block
  pub prev_is : block.prev ≡ prev
  pub other : id ≢ tree.head

pub has_prev : (tree : BlockTree) (id prev : List ℕ) → prev_of tree id ≡ Some prev → HasPrev tree id prev
has_prev tree id prev e = by_test (bytes_eq id tree.head) refl e
  where
    by_case : (o : Option Header) → block_of tree.blocks id ≡ o → bytes_eq id tree.head ≡ false → option_map (λ block. block.prev) o ≡ Some prev → HasPrev tree id prev
    by_case None is other e = cc
    by_case (Some b) is other e = record { block = b; is = is; prev_is = cc; other = apart_from id tree.head other }

    by_test : (t : Bool) → bytes_eq id tree.head ≡ t → cond t None (option_map (λ block. block.prev) (block_of tree.blocks id)) ≡ Some prev → HasPrev tree id prev
    by_test true same e = cc
    by_test false other e = by_case (block_of tree.blocks id) refl other e

pub line-over : (tree : BlockTree) (id prev : List ℕ) → IsTree tree → prev_of tree id ≡ Some prev → line tree id ≡ line tree prev ++ id ∷ []
line-over tree id prev is e =
    let has = has_prev tree id prev e in
    (stands_in tree is id has.block has.is has.other).line ∙ ap (λ k. line tree k ++ id ∷ []) has.prev_is

pub descent-over : (tree : BlockTree) (from id prev : List ℕ) → IsTree tree → prev_of tree id ≡ Some prev → descends tree from id ≡ (descends tree from prev || bytes_eq from id)
descent-over tree from id prev is e =
    let has = has_prev tree id prev e in
    descends-over tree is from id has.block has.is has.other ∙ ap (λ k. descends tree from k || bytes_eq from id) has.prev_is

pub heights : (tree : BlockTree) (id : List ℕ) → IsTree tree → bytes_eq id tree.head ≡ false → IfSome (block_of tree.blocks id) (λ block. IsSomeAnd (block_of tree.blocks block.prev) (λ prev. prev.height < block.height))
heights tree id is other = by_case (block_of tree.blocks id) refl
  where
    by_case : (o : Option Header) → block_of tree.blocks id ≡ o → IfSome o (λ block. IsSomeAnd (block_of tree.blocks block.prev) (λ prev. prev.height < block.height))
    by_case None e = tt
    by_case (Some b) e = let over = (stands_in tree is id b e (apart_from id tree.head other)).over in subst (λ o. IsSomeAnd o (λ prev. prev.height < b.height)) (sym over.is) over.has

-- ---- trees stay trees

pub tree-block : (most : ℕ) (tree : BlockTree) (block : Header) → IsTree tree → IsTree (after_block most tree block)
unfolding after_block
tree-block most tree block is = by_case (block_fault most tree block) refl
  where
    by_case : (o : Option BlockFault) → block_fault most tree block ≡ o → IsTree (grown_unless o tree block)
    by_case None e = let taken = accepted most tree block e in grown-is tree is block taken.new taken.higher
    by_case (Some fault) e = is

pub tree-move : (tree : BlockTree) (id : List ℕ) → IsTree tree → IsTree (after_move tree id)
unfolding after_move
tree-move tree id is = by_case (block_of tree.blocks id) refl
  where
    by_case : (o : Option Header) → block_of tree.blocks id ≡ o → IsTree (cond (is_some o) (moved tree id) tree)
    by_case None e = is
    by_case (Some b) e = moved-is tree is id b e

pub states-block : (most : ℕ) (forks : ForkState) (header : Header) (changes : Changes) → IsForkState forks → IsForkState (after_offer most forks header changes)
unfolding after_offer
states-block most forks header changes is = by_case (block_fault most (tree_of_blocks forks) header) refl
  where
    by_case : (o : Option BlockFault) → block_fault most (tree_of_blocks forks) header ≡ o → IsForkState (with_block_unless o forks header changes)
    by_case None e = after_offer-keeps most forks header changes is (accepted most (tree_of_blocks forks) header e)
    by_case (Some fault) e = is

pub states-move : (forks : ForkState) (id : List ℕ) → IsForkState forks → IsForkState (after_head forks id)
unfolding after_head
states-move forks id is = by_case (block_at forks.blocks id) refl
  where
    by_case : (o : Option Block) → block_at forks.blocks id ≡ o → IsForkState (cond (is_live (tree_of_blocks forks) id) (head_moved forks id) forks)
    by_case None e = subst (λ o. IsForkState (cond (is_some o) (head_moved forks id) forks)) (sym (block_of-at forks.blocks id ∙ ap (option_map (λ block. block.header)) e)) is
    by_case (Some b) e = subst (λ o. IsForkState (cond (is_some o) (head_moved forks id) forks)) (sym (block_of-at forks.blocks id ∙ ap (option_map (λ block. block.header)) e)) (head_moved-keeps forks is id b e)

-- ---- the head comes first

first-append : (xs ys : List Header) (q : List ℕ) → first_id xs ≡ Some q → first_id (xs ++ ys) ≡ Some q
first-append [] ys q e = cc
first-append (x ∷ xs) ys q e = e

first-grown : (head : List ℕ) (bs : List Header) → AreGrown head bs → first_id (reverse bs) ≡ Some head
first-grown head [] grown = absurd grown
first-grown head (b ∷ []) grown = ap Some (sym grown)
first-grown head (b ∷ o ∷ rest) grown = ap first_id (reverse-append (b ∷ []) (o ∷ rest)) ∙ first-append (reverse (o ∷ rest)) (b ∷ []) head (first-grown head (o ∷ rest) grown.1)

pub first-head : (tree : BlockTree) → IsTree tree → first_id tree.blocks ≡ Some tree.head
first-head tree is = ap first_id (sym (reverse-reverse tree.blocks)) ∙ first-grown tree.head (reverse tree.blocks) is.grown

pub first-moved : (tree : BlockTree) (id : List ℕ) → IsTree tree → is_live tree id ≡ true → first_id (after_move tree id).blocks ≡ Some id
unfolding after_move moved
first-moved tree id is live =
    let b = found_live _ live in
    ap (λ t. first_id (cond t (moved tree id) tree).blocks) live ∙ first-head (moved tree id) (moved-is tree is id b.0 b.1)

-- ---- what a move keeps and tells

pub states-kept : (forks : ForkState) (id other : List ℕ) → block_at (head_moved forks id).blocks other ≡ cond (descends (tree_of_blocks forks) id other) (block_at forks.blocks other) None
unfolding head_moved block_at
states-kept forks id other = found-filter block_key (descends (tree_of_blocks forks) id) forks.blocks other

pub all-told : (tree : BlockTree) (id : List ℕ) → IsTree tree → is_live tree id ≡ true → IsPermutation (ids_of tree.blocks) (tree.head ∷ passed tree id ++ dropped tree id ++ ids_behind (moved tree id))
all-told tree id is live =
    let b = found_live _ live in
    subst (λ ids. IsPermutation (ids_of tree.blocks) (ids ++ dropped tree id ++ ids_behind (moved tree id))) (line-passed tree is id b.0 b.1) (told_once tree is id b.0 b.1)

pub moved-twice : (tree : BlockTree) (id other : List ℕ) → IsTree tree → is_live tree id ≡ true → is_live (after_move tree id) other ≡ true → passed tree other ≡ passed tree id ++ passed (after_move tree id) other
unfolding after_move
moved-twice tree id other is live again =
    let b = found_live _ live in
    let to : after_move tree id ≡ moved tree id = ap (λ t. cond t (moved tree id) tree) live in
    let c = found_live (block_of (moved tree id).blocks other) (subst (λ next. is_live next other ≡ true) to again) in
    passed-onward tree is id b.0 b.1 other c.0 c.1 ∙ ap (λ next. passed tree id ++ passed next other) (sym to)

-- ---- states along lines

pub laid_along-push : (forks : ForkState) (ids : List (List ℕ)) (id : List ℕ) (state : State) → laid_along forks (ids ++ id ∷ []) state ≡ after (laid_along forks ids state) (unwrap_or (changes_at forks id) empty)
unfolding laid_along
laid_along-push forks [] id state = refl
laid_along-push forks (x ∷ ids) id state = laid_along-push forks ids id (after state (unwrap_or (changes_at forks x) empty))

pub states-along : (forks : ForkState) (id : List ℕ) → IsForkState forks → is_live (tree_of_blocks forks) id ≡ true → state_at forks id ≡ option_map (laid_along forks (passed (tree_of_blocks forks) id)) (state_at forks forks.head)
unfolding laid_along
states-along forks id is live = let b = found_live _ live in by_lines tree is.tree Along first step id b.0 b.1
  where
    tree : BlockTree
    tree = tree_of_blocks forks

    Along : List ℕ → Type 0
    Along q = state_at forks q ≡ option_map (laid_along forks (passed tree q)) (state_at forks forks.head)

    itself : (o : Option State) → o ≡ option_map (laid_along forks []) o
    itself None = refl
    itself (Some s) = refl

    first : Along forks.head
    first = itself (state_at forks forks.head) ∙ ap (λ ids. option_map (laid_along forks ids) (state_at forks forks.head)) (sym (passed-head tree is.tree))

    step : (q : List ℕ) (h : Header) → block_of tree.blocks q ≡ Some h → (q ≢ forks.head) → StandsIn tree q h → Along h.prev → Along q
    step q h at other s below = by_case (block_at forks.blocks q) refl
      where
        more : (b : Block) → (o : Option State) → (ids : List (List ℕ)) → (former : State) → Some former ≡ option_map (laid_along forks ids) o → changes_at forks q ≡ Some b.changes → b.state ≡ after former b.changes → Some b.state ≡ option_map (laid_along forks (ids ++ q ∷ [])) o
        more b None ids former e kept laid = cc
        more b (Some state) ids former e kept laid =
            let is_former : former ≡ laid_along forks ids state = cc in
            ap Some (laid ∙ ap₂ after is_former (ap (λ o. unwrap_or o empty) (sym kept)) ∙ sym (laid_along-push forks ids q state))

        by_case : (o : Option Block) → block_at forks.blocks q ≡ o → Along q
        by_case None e = absurd (found_not_none at (block_of-at forks.blocks q ∙ ap (option_map (λ block. block.header)) e))
        by_case (Some b) e =
            let same : b.header ≡ h = cc (at, block_of-at forks.blocks q ∙ ap (option_map (λ block. block.header)) e) in
            let over = prev_from _ _ (subst (λ o. IfSome o (λ block. IsSomeAnd (block_at forks.blocks block.header.prev) (λ prev. block.state ≡ after prev.state block.changes))) e (is.states q (apart_is q forks.head other))) in
            let former : state_at forks h.prev ≡ Some over.prev.state = ap (λ x. state_at forks x.prev) (sym same) ∙ ap (option_map (λ block. block.state)) over.is in
            ◌∙◌ {a = state_at forks q} {b = Some b.state} {c = option_map (laid_along forks (passed tree q)) (state_at forks forks.head)}
            (ap (option_map (λ block. block.state)) e)
            (more b (state_at forks forks.head) (passed tree h.prev) over.prev.state (sym former ∙ below) (ap (option_map (λ block. block.changes)) e) over.has
            ∙ ap (λ ids. option_map (laid_along forks ids) (state_at forks forks.head)) (sym (passed-over tree is.tree q h at other)))

-- ---- what is refused

pub refused-block : (most : ℕ) (tree : BlockTree) (block : Header) → IsSome (block_fault most tree block) → after_block most tree block ≡ tree
unfolding after_block
refused-block most tree block refused = let fault = found_live _ refused in ap (λ o. grown_unless o tree block) fault.1

pub refused-states : (most : ℕ) (forks : ForkState) (header : Header) (changes : Changes) → IsSome (block_fault most (tree_of_blocks forks) header) → after_offer most forks header changes ≡ forks
unfolding after_offer
refused-states most forks header changes refused = let fault = found_live _ refused in ap (λ o. with_block_unless o forks header changes) fault.1

pub refused-move : (tree : BlockTree) (id : List ℕ) → is_live tree id ≡ false → after_move tree id ≡ tree
unfolding after_move
refused-move tree id gone = ap (λ t. cond t (moved tree id) tree) gone

pub refused-head : (forks : ForkState) (id : List ℕ) → is_live (tree_of_blocks forks) id ≡ false → after_head forks id ≡ forks
unfolding after_head
refused-head forks id gone = ap (λ t. cond t (head_moved forks id) forks) gone

-- ---- how many are live

pub bounded-block : (most : ℕ) (tree : BlockTree) (block : Header) → length tree.blocks ≤ most → length (after_block most tree block).blocks ≤ most
unfolding after_block
bounded-block most tree block le = by_case (block_fault most tree block) refl
  where
    by_case : (o : Option BlockFault) → block_fault most tree block ≡ o → length (grown_unless o tree block).blocks ≤ most
    by_case None e =
        let room = (accepted most tree block e).room in
        let more = length-append tree.blocks (block ∷ []) in
        omega (arith, room, more)
    by_case (Some fault) e = le

length-filter : {X : Type 0} (p : X → Bool) (xs : List X) → length (filter p xs) ≤ length xs
length-filter p [] = omega arith
length-filter {X} p (x ∷ xs) = by_test (p x) (length-filter p xs)
  where
    by_test : (t : Bool) → length (filter p xs) ≤ length xs → length (cond t (x ∷ filter p xs) (filter p xs)) ≤ length (x ∷ xs)
    by_test true le = omega (arith, le)
    by_test false le = omega (arith, le)

pub bounded-move : (tree : BlockTree) (id : List ℕ) → length (after_move tree id).blocks ≤ length tree.blocks
unfolding after_move moved
bounded-move tree id = by_test (is_live tree id)
  where
    by_test : (t : Bool) → length (cond t (moved tree id) tree).blocks ≤ length tree.blocks
    by_test true = length-filter (λ block. descends tree id block.id) tree.blocks
    by_test false = omega arith

-- ---- a move to the head

pub head-stays : (tree : BlockTree) → IsTree tree → after_move tree tree.head ≡ tree
unfolding after_move
head-stays tree is = let head = head-live tree is in ap (λ o. cond (is_some o) (moved tree tree.head) tree) head.1 ∙ moved-head tree is

pub head-states-stay : (forks : ForkState) → IsForkState forks → after_head forks forks.head ≡ forks
unfolding after_head head_moved block_at
head-states-stay forks is =
    let tree : BlockTree = tree_of_blocks forks in
    let head = head-live tree is.tree in
    ap (λ o. cond (is_some o) (head_moved forks forks.head) forks) head.1
    ∙ ap (λ blocks. record { head = forks.head; blocks = blocks })
    (filter_found block_key (descends tree forks.head) (λ _. true) forks.blocks
    (λ q live. let b = found_live _ live in descends-from_head tree is.tree q b.0.header (block_of-at forks.blocks q ∙ ap (option_map (λ block. block.header)) b.1))
    ∙ filter-all forks.blocks)
