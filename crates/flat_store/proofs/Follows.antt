-- What is kept of live blocks with their states, and what it tells of them.
use Rattle.std.proofs.Common.{◌≡◌, ◌≢◌, ℕ, Bool, true, false, cond, List, [], ◌∷◌, ◌++◌, Option, None, Some, is_some, refl, sym, ap, subst, ◌∙◌}
use Rattle.std.specs.Option.{option_map, option_or, unwrap_or, IsSomeAnd}
use Rattle.std.specs.Str.{bytes_eq}
use Rattle.std.specs.Cmp.Lexicographic.{nat_list_cmp_total, texts_ties}
use Rattle.std.specs.FinMap.{empty, get, insert, get-empty, get-insert}
use Rattle.trie_model.specs.State.{State}
use Rattle.trie_model.specs.Root.{zero_digest}
use Rattle.batch_model.specs.Changes.{Changes, after}
use Rattle.base_core.proofs.ByteMaps.{order}
use Rattle.fork_model.specs.Trees.{BlockTree, Header, block_fault, block_of, is_live, passed}
use Rattle.fork_model.specs.States.{Block, ForkState, IsForkState, block_at, changes_at, first_fork, laid_along, state_at, tree_of_blocks, with_block}
use Rattle.fork_model.proofs.Ids.{apart_is, found-push, found-push_new, found-push_old, same-itself, same_from}
use Rattle.fork_model.proofs.Faults.{IsAccepted, accepted}
use Rattle.fork_model.proofs.Lines.{by_lines, prev_from}
use Rattle.fork_model.proofs.Passed.{passed-head, passed-over}
use Rattle.fork_model.proofs.States.{block_key, block_of-at, over_prev, with_block-is}
use Rattle.fork_model.proofs.Told.{found_live, laid_along-push, states-along}
use Rattle.flat_store.specs.Flats.{Deltas, FlatState, HasSameBlocks, IsFlatOf, delta_of, kept_of, laid_over, map_of}
use Rattle.flat_store.proofs.Ways.{laid-push}

-- ---- the live blocks

pub same_blocks : (blocks : ForkState) (flat : FlatState) → IsFlatOf blocks flat → HasSameBlocks (tree_of_blocks blocks) flat.deltas
same_blocks blocks flat is id =
    ap is_some (is.deltas id) ∙ by_test (bytes_eq id blocks.head) (block_at blocks.blocks id)
    ∙ ap (λ (o : Option Header). is_some (cond (bytes_eq id blocks.head) None (option_map (λ (b : Header). b.prev) o))) (sym (block_of-at blocks.blocks id))
  where
    by_test : (b : Bool) (o : Option Block) → is_some (cond b None (option_map (λ (x : Block). x.changes) o)) ≡ is_some (cond b None (option_map (λ (h : Header). h.prev) (option_map (λ (x : Block). x.header) o)))
    by_test true o = refl
    by_test false None = refl
    by_test false (Some x) = refl

-- ---- the state of each

module _ (blocks : ForkState) (flat : FlatState) (well : IsForkState blocks) (is : IsFlatOf blocks flat) where
  abbrev pub tree : BlockTree
  tree = tree_of_blocks blocks

  delta-kept : (id : List ℕ) → (id ≢ blocks.head) → delta_of flat.deltas id ≡ unwrap_or (changes_at blocks id) empty
  delta-kept id other = ap (λ (o : Option Changes). unwrap_or o empty) (is.deltas id ∙ ap (λ b. cond b None (changes_at blocks id)) (apart_is id blocks.head other))

  laid-along : (id : List ℕ) (b : Header) → block_of tree.blocks id ≡ Some b → (state : State) → laid_over flat.deltas (passed tree id) state ≡ laid_along blocks (passed tree id) state
  unfolding laid_over laid_along
  laid-along id b at =
      by_lines tree well.tree (λ q. (state : State) → laid_over flat.deltas (passed tree q) state ≡ laid_along blocks (passed tree q) state)
      (λ state. ap (λ ids. laid_over flat.deltas ids state) (passed-head tree well.tree) ∙ sym (ap (λ ids. laid_along blocks ids state) (passed-head tree well.tree)))
      (λ q c found other stands before state.
      ap (λ ids. laid_over flat.deltas ids state) (passed-over tree well.tree q c found other) ∙ laid-push flat.deltas (passed tree c.prev) q state
      ∙ ap (λ (s : State). after s (delta_of flat.deltas q)) (before state) ∙ ap (after (laid_along blocks (passed tree c.prev) state)) (delta-kept q other)
      ∙ sym (ap (λ ids. laid_along blocks ids state) (passed-over tree well.tree q c found other) ∙ laid_along-push blocks (passed tree c.prev) q state)) id b at

  pub state-told : (id : List ℕ) → is_live tree id ≡ true → state_at blocks id ≡ Some (map_of flat tree id)
  state-told id live =
      let found = found_live (block_of tree.blocks id) live in
      states-along blocks id well live ∙ ap (option_map (laid_along blocks (passed tree id))) is.head ∙ ap Some (sym (laid-along id found.0 found.1 flat.head))

pub state-shown : (blocks : ForkState) (flat : FlatState) (seen : BlockTree) (id : List ℕ) → IsForkState blocks → tree_of_blocks blocks ≡ seen → IsFlatOf blocks flat → is_live seen id ≡ true → state_at blocks id ≡ Some (map_of flat seen id)
state-shown blocks flat seen id well same is live = state-told blocks flat well is id (ap (λ (t : BlockTree). is_live t id) same ∙ live) ∙ ap (λ (t : BlockTree). Some (map_of flat t id)) same

-- what holds of the map that is told holds of the block's state
pub state-has : (blocks : ForkState) (flat : FlatState) (seen : BlockTree) (id : List ℕ) (P : State → Type 0) → IsForkState blocks → tree_of_blocks blocks ≡ seen → IsFlatOf blocks flat → is_live seen id ≡ true → P (map_of flat seen id) → IsSomeAnd (state_at blocks id) P
state-has blocks flat seen id P well same is live has = subst (λ o. IsSomeAnd o P) (sym (state-shown blocks flat seen id well same is live)) has

-- ---- nothing is changed, and the start

pub flat-same : (blocks : ForkState) (old new : FlatState) → IsFlatOf blocks old → new.head ≡ old.head → new.deltas ≡ old.deltas → IsFlatOf blocks new
flat-same blocks old new is head deltas = record { head = is.head ∙ ap Some (sym head); deltas = λ q. ap (λ (m : Deltas). get m q) deltas ∙ is.deltas q }

pub flat-first : (flat : FlatState) → flat.head ≡ empty → flat.deltas ≡ empty → IsFlatOf first_fork flat
unfolding block_at
flat-first flat head deltas = record {
  head = ap (λ b. option_map (λ (x : Block). x.state) (cond b (Some alone) None)) (same-itself zero_digest) ∙ ap Some (sym head);
  deltas = λ q. ap (λ (m : Deltas). get m q) deltas ∙ get-empty order q ∙ by_test (bytes_eq q zero_digest);
}
  where
    alone : Block
    alone = record { header = record { id = zero_digest; prev = zero_digest; height = 0 }; state = empty; changes = empty }

    by_test : (b : Bool) → None ≡ cond b None (option_map (λ (x : Block). x.changes) (cond b (Some alone) None))
    by_test true = refl
    by_test false = refl

-- ---- one block more

pub block-added : (most : ℕ) (blocks : ForkState) (header : Header) (changes : Changes) (old new : FlatState) (id : List ℕ) → header.id ≡ id → block_fault most (tree_of_blocks blocks) header ≡ None → IsFlatOf blocks old
    → new.head ≡ old.head → new.deltas ≡ insert old.deltas id changes → IsFlatOf (with_block blocks header changes) new
unfolding block_at
block-added most blocks header changes old new id named fine is head deltas =
    let ok : IsAccepted most (tree_of_blocks blocks) header = accepted most (tree_of_blocks blocks) header fine in
    let over = prev_from (block_of (tree_of_blocks blocks).blocks header.prev) _ ok.higher in
    from_prev ok.new (block_at blocks.blocks header.prev) refl (sym (block_of-at blocks.blocks header.prev) ∙ over.is)
  where
    not-live : block_of (tree_of_blocks blocks).blocks header.id ≡ None → block_at blocks.blocks header.id ≡ None
    not-live none = by_case (block_at blocks.blocks header.id) (sym (block_of-at blocks.blocks header.id) ∙ none)
      where
        by_case : (o : Option Block) → option_map (λ (x : Block). x.header) o ≡ None → o ≡ None
        by_case None e = refl
        by_case (Some x) e = absurd cc

    added : (prev : Block) → block_at blocks.blocks header.id ≡ None → IsFlatOf (record blocks { blocks = blocks.blocks ++ over_prev header changes prev ∷ [] }) new
    added prev none = record {
      head = by_head (block_at blocks.blocks blocks.head) refl is.head ∙ ap Some (sym head);
      deltas = λ q. ap (λ (m : Deltas). get m q) deltas ∙ get-insert nat_list_cmp_total old.deltas id changes q ∙ ap (λ b. cond b (Some changes) (get old.deltas q)) (sym (texts_ties q id)) ∙ by_test q (bytes_eq q id) refl;
    }
      where
        by_head : (o : Option Block) → block_at blocks.blocks blocks.head ≡ o → option_map (λ (x : Block). x.state) o ≡ Some old.head
            → option_map (λ (x : Block). x.state) (block_at (blocks.blocks ++ over_prev header changes prev ∷ []) blocks.head) ≡ Some old.head
        by_head None e f = absurd cc
        by_head (Some x) e f = ap (option_map (λ (x : Block). x.state)) (found-push_old block_key blocks.blocks (over_prev header changes prev) blocks.head x e) ∙ f

        not-head : id ≢ blocks.head
        not-head same = by_case (block_at blocks.blocks blocks.head) (ap (block_at blocks.blocks) (sym (named ∙ same)) ∙ none) is.head
          where
            by_case : (o : Option Block) → o ≡ None → option_map (λ (x : Block). x.state) o ≡ Some old.head → ⊥
            by_case None e f = absurd cc
            by_case (Some x) e f = absurd cc

        by_test : (q : List ℕ) (b : Bool) → bytes_eq q id ≡ b → cond b (Some changes) (get old.deltas q) ≡ kept_of (record blocks { blocks = blocks.blocks ++ over_prev header changes prev ∷ [] }) q
        by_test q true same =
            let here : q ≡ id = same_from q id same in
            sym (ap (λ k. cond (bytes_eq k blocks.head) None (option_map (λ (x : Block). x.changes) (block_at (blocks.blocks ++ over_prev header changes prev ∷ []) k))) here
            ∙ ap (λ b. cond b None (option_map (λ (x : Block). x.changes) (block_at (blocks.blocks ++ over_prev header changes prev ∷ []) id))) (apart_is id blocks.head not-head)
            ∙ ap (option_map (λ (x : Block). x.changes)) (found-push_new block_key blocks.blocks (over_prev header changes prev) id (ap (block_at blocks.blocks) (sym named) ∙ none))
            ∙ ap (λ b. option_map (λ (x : Block). x.changes) (cond b (Some (over_prev header changes prev)) None)) (ap (bytes_eq id) named ∙ same-itself id))
        by_test q false other =
            is.deltas q ∙ ap (λ (o : Option Block). cond (bytes_eq q blocks.head) None (option_map (λ (x : Block). x.changes) o)) (sym (
            found-push block_key blocks.blocks (over_prev header changes prev) q ∙ ap (λ b. option_or (block_at blocks.blocks q) (cond b (Some (over_prev header changes prev)) None)) (ap (bytes_eq q) named ∙ other) ∙ or_none (block_at blocks.blocks q)))
          where
            or_none : (o : Option Block) → option_or o None ≡ o
            or_none None = refl
            or_none (Some x) = refl

    from_prev : {prev : Header} → block_of (tree_of_blocks blocks).blocks header.id ≡ None → (o : Option Block) → block_at blocks.blocks header.prev ≡ o → option_map (λ (x : Block). x.header) (block_at blocks.blocks header.prev) ≡ Some prev → IsFlatOf (with_block blocks header changes) new
    from_prev none None e f = absurd (nothing _ e f)
      where
        nothing : {p : Header} (o : Option Block) → o ≡ None → option_map (λ (x : Block). x.header) o ≡ Some p → ⊥
        nothing None e f = absurd cc
        nothing (Some x) e f = absurd cc
    from_prev none (Some p) e f = subst (λ f. IsFlatOf f new) (sym (with_block-is blocks header changes p e)) (added p (not-live none))
