-- Live blocks with their states, as blocks are accepted and the head moves.
use Rattle.std.proofs.Common.{◌≡◌, ℕ, ◌<◌, Bool, true, false, cond, ◌||◌, List, [], ◌∷◌, ◌++◌, map, Option, None, Some, IfSome, refl, sym, ◌∙◌, ap, subst}
use Rattle.std.specs.Option.{option_map, IsSomeAnd}
use Rattle.std.specs.List.{filter}
use Rattle.std.specs.Str.{bytes_eq}
use Rattle.std.proofs.lemmas.List.{map-append}
use Rattle.batch_model.specs.Changes.{Changes, after}
use Rattle.fork_model.specs.Trees.{Header, BlockTree, BlockFault, IsTree, after_block, after_move, block_fault, block_of, descends, grown, grown_unless, is_live, moved}
use Rattle.fork_model.specs.States.{Block, ForkState, IsForkState, IsLaidOver, after_head, after_offer, behind_blocks, block_at, first_fork, head_moved, tree_of_blocks, with_block, with_block_unless}
use Rattle.fork_model.proofs.Ids.{found, apart_from, apart_is, found-behind, found-filter, found-push_new, found-push_old}
use Rattle.fork_model.proofs.Lines.{prev_from}
use Rattle.fork_model.proofs.Moves.{grown-is, moved-is, or_false}
use Rattle.fork_model.proofs.Descent.{descends-over}
use Rattle.fork_model.proofs.Passed.{behind_head}
use Rattle.fork_model.proofs.Faults.{IsAccepted, accepted}
use Rattle.fork_model.proofs.Partition.{filter-map}

abbrev pub block_key : Block → List ℕ
block_key block = block.header.id

-- what the tree finds is the header of what is found
pub block_of-at : (blocks : List Block) (q : List ℕ) → block_of (map (λ block. block.header) blocks) q ≡ option_map (λ block. block.header) (block_at blocks q)
unfolding block_of block_at
block_of-at [] q = refl
block_of-at (b ∷ blocks) q = by_test (bytes_eq q b.header.id) (block_of-at blocks q)
  where
    by_test : (t : Bool) → found (λ h. h.id) (map (λ block. block.header) blocks) q ≡ option_map (λ block. block.header) (found block_key blocks q) → cond t (Some b.header) (found (λ h. h.id) (map (λ block. block.header) blocks) q) ≡ option_map (λ block. block.header) (cond t (Some b) (found block_key blocks q))
    by_test true rest = refl
    by_test false rest = rest

-- ---- the tree of the blocks follows them

pub tree-moved : (forks : ForkState) (id : List ℕ) → tree_of_blocks (head_moved forks id) ≡ moved (tree_of_blocks forks) id
unfolding head_moved moved
tree-moved forks id = ap (λ (blocks : List Header). record { head = id; blocks = blocks }) (sym (filter-map (λ (h : Header). descends (tree_of_blocks forks) id h.id) (λ block. block.header) forks.blocks))

pub tree-after_head : (forks : ForkState) (id : List ℕ) → tree_of_blocks (after_head forks id) ≡ after_move (tree_of_blocks forks) id
unfolding after_head after_move
tree-after_head forks id = by_test (is_live (tree_of_blocks forks) id)
  where
    by_test : (t : Bool) → tree_of_blocks (cond t (head_moved forks id) forks) ≡ cond t (moved (tree_of_blocks forks) id) (tree_of_blocks forks)
    by_test true = tree-moved forks id
    by_test false = refl

-- the prev of an accepted block has a state
prev_at : (forks : ForkState) (header : Header) → IsSomeAnd (block_of (tree_of_blocks forks).blocks header.prev) (λ prev. prev.height < header.height) → (b : Block) × (block_at forks.blocks header.prev ≡ Some b)
prev_at forks header higher = by_case (block_at forks.blocks header.prev) refl (subst (λ o. IsSomeAnd o (λ prev. prev.height < header.height)) (block_of-at forks.blocks header.prev) higher)
  where
    by_case : (o : Option Block) → block_at forks.blocks header.prev ≡ o → IsSomeAnd (option_map (λ block. block.header) o) (λ prev. prev.height < header.height) → (b : Block) × (block_at forks.blocks header.prev ≡ Some b)
    by_case None is h = absurd h
    by_case (Some b) is h = (b, is)

abbrev pub over_prev : Header → Changes → Block → Block
over_prev header changes prev = record { header = header; state = after prev.state changes; changes = changes }

pub with_block-is : (forks : ForkState) (header : Header) (changes : Changes) (prev : Block) → block_at forks.blocks header.prev ≡ Some prev → with_block forks header changes ≡ record forks { blocks = forks.blocks ++ over_prev header changes prev ∷ [] }
unfolding with_block
with_block-is forks header changes prev is = ap (λ (o : Option Block). behind_blocks forks header changes (option_map (λ state. after state changes) (option_map (λ block. block.state) o))) is

tree-with_block : (forks : ForkState) (header : Header) (changes : Changes) → IsSomeAnd (block_of (tree_of_blocks forks).blocks header.prev) (λ prev. prev.height < header.height) → tree_of_blocks (with_block forks header changes) ≡ grown (tree_of_blocks forks) header
tree-with_block forks header changes higher =
    let prev = prev_at forks header higher in
    ap tree_of_blocks (with_block-is forks header changes prev.0 prev.1)
    ∙ ap (λ (blocks : List Header). record { head = forks.head; blocks = blocks }) (map-append (λ (block : Block). block.header) forks.blocks (over_prev header changes prev.0 ∷ []))

pub tree-after_offer : (most : ℕ) (forks : ForkState) (header : Header) (changes : Changes) → tree_of_blocks (after_offer most forks header changes) ≡ after_block most (tree_of_blocks forks) header
unfolding after_offer after_block
tree-after_offer most forks header changes = by_case (block_fault most (tree_of_blocks forks) header) refl
  where
    by_case : (o : Option BlockFault) → block_fault most (tree_of_blocks forks) header ≡ o → tree_of_blocks (with_block_unless o forks header changes) ≡ grown_unless o (tree_of_blocks forks) header
    by_case None e = tree-with_block forks header changes (accepted most (tree_of_blocks forks) header e).higher
    by_case (Some fault) e = refl

-- ---- what holds of live blocks holds after a block and a move

pub first-is : IsForkState first_fork
unfolding block_at
first-is = record { tree = record { grown = refl }; states = others }
  where
    others : (id : List ℕ) → bytes_eq id first_fork.head ≡ false → IfSome (block_at first_fork.blocks id) (λ block. IsLaidOver (block_at first_fork.blocks block.header.prev) block)
    others id other = subst (λ (o : Option Block). IfSome o (λ block. IsLaidOver (block_at first_fork.blocks block.header.prev) block)) (sym (found-behind block_key _ [] id (apart_from id _ other))) tt

-- a block that is laid over stays so where its prev is found as before
laid-found : (b : Block) (o p : Option Block) → IsLaidOver o b → ((c : Block) → o ≡ Some c → p ≡ Some c) → IsLaidOver p b
laid-found b o p laid found_too = let prev = prev_from o _ laid in subst (λ x. IsLaidOver x b) (sym (found_too prev.prev prev.is)) prev.has

module _ (most : ℕ) (forks : ForkState) (header : Header) (changes : Changes) (is : IsForkState forks) (taken : IsAccepted most (tree_of_blocks forks) header) where
  with_block-keeps : (prev : Block) → block_at forks.blocks header.prev ≡ Some prev → IsForkState (record forks { blocks = forks.blocks ++ over_prev header changes prev ∷ [] })
  unfolding block_at
  with_block-keeps prev at = record {
    tree = subst IsTree (sym (ap (λ (blocks : List Header). record { head = forks.head; blocks = blocks }) (map-append (λ (block : Block). block.header) forks.blocks (new ∷ [])))) (grown-is (tree_of_blocks forks) is.tree header taken.new taken.higher);
    states = λ id other. by_case id other (block_at forks.blocks id) refl;
  }
    where
      new : Block
      new = over_prev header changes prev

      Laid : Option Block → Type 0
      Laid o = IfSome o (λ block. IsLaidOver (found block_key (forks.blocks ++ new ∷ []) block.header.prev) block)

      by_test : (t : Bool) → Laid (cond t (Some new) None)
      by_test true = subst (λ o. IsLaidOver o new) (sym (found-push_old block_key forks.blocks new header.prev prev at)) refl
      by_test false = tt

      by_case : (id : List ℕ) → bytes_eq id forks.head ≡ false → (o : Option Block) → found block_key forks.blocks id ≡ o → Laid (found block_key (forks.blocks ++ new ∷ []) id)
      by_case id other None e = subst Laid (sym (found-push_new block_key forks.blocks new id e)) (by_test (bytes_eq id header.id))
      by_case id other (Some b) e =
          let laid : IsLaidOver (found block_key forks.blocks b.header.prev) b = subst (λ o. IfSome o (λ block. IsLaidOver (block_at forks.blocks block.header.prev) block)) e (is.states id other) in
          subst Laid (sym (found-push_old block_key forks.blocks new id b e)) (laid-found b _ _ laid (λ c found_in. found-push_old block_key forks.blocks new b.header.prev c found_in))

  pub after_offer-keeps : IsForkState (with_block forks header changes)
  after_offer-keeps = let prev = prev_at forks header taken.higher in subst IsForkState (sym (with_block-is forks header changes prev.0 prev.1)) (with_block-keeps prev.0 prev.1)

pub head_moved-keeps : (forks : ForkState) → IsForkState forks → (id : List ℕ) (c : Block) → block_at forks.blocks id ≡ Some c → IsForkState (head_moved forks id)
unfolding head_moved block_at
head_moved-keeps forks is id c at = record {
  tree = subst IsTree (sym (tree-moved forks id)) (moved-is tree is.tree id c.header at_tree);
  states = λ q other. by_test q other (descends tree id q) refl (found block_key forks.blocks q) refl;
}
  where
    tree : BlockTree
    tree = tree_of_blocks forks

    at_tree : block_of tree.blocks id ≡ Some c.header
    at_tree = block_of-at forks.blocks id ∙ ap (option_map (λ block. block.header)) at

    kept : List Block
    kept = filter (λ block. descends tree id block.header.id) forks.blocks

    found_kept : (q : List ℕ) → found block_key kept q ≡ cond (descends tree id q) (found block_key forks.blocks q) None
    found_kept q = found-filter block_key (descends tree id) forks.blocks q

    Laid : Option Block → Type 0
    Laid o = IfSome o (λ block. IsLaidOver (found block_key kept block.header.prev) block)

    -- the prev of what stays behind the new head stays
    over : (q : List ℕ) (b : Block) → bytes_eq q id ≡ false → descends tree id q ≡ true → found block_key forks.blocks q ≡ Some b → IsLaidOver (found block_key kept b.header.prev) b
    over q b other down e =
        let apart = apart_from q id other in
        let not_head = behind_head tree is.tree id q down apart in
        let here : block_of tree.blocks q ≡ Some b.header = block_of-at forks.blocks q ∙ ap (option_map (λ block. block.header)) e in
        let both : (descends tree id b.header.prev || bytes_eq id q) ≡ true = sym (descends-over tree is.tree id q b.header here not_head) ∙ down in
        let up : descends tree id b.header.prev ≡ true = sym (or_false _) ∙ ap (λ t. descends tree id b.header.prev || t) (sym (apart_is id q (λ s. apart (sym s)))) ∙ both in
        let laid : IsLaidOver (found block_key forks.blocks b.header.prev) b = subst (λ o. IfSome o (λ block. IsLaidOver (block_at forks.blocks block.header.prev) block)) e (is.states q (apart_is q forks.head not_head)) in
        subst (λ o. IsLaidOver o b) (sym (found_kept b.header.prev ∙ ap (λ t. cond t (found block_key forks.blocks b.header.prev) None) up)) laid

    by_test : (q : List ℕ) → bytes_eq q id ≡ false → (t : Bool) → descends tree id q ≡ t → (o : Option Block) → found block_key forks.blocks q ≡ o → Laid (found block_key kept q)
    by_test q other false down o e = subst Laid (sym (found_kept q ∙ ap (λ t. cond t (found block_key forks.blocks q) None) down)) tt
    by_test q other true down None e = subst Laid (sym (found_kept q ∙ ap (λ t. cond t (found block_key forks.blocks q) None) down ∙ e)) tt
    by_test q other true down (Some b) e = subst Laid (sym (found_kept q ∙ ap (λ t. cond t (found block_key forks.blocks q) None) down ∙ e)) (over q b other down e)
