-- A tree and what is kept of its blocks, as both are changed together.
use Rattle.std.proofs.Common.{◌≡◌, ℕ, ◌≤◌, ◌<◌, Bool, true, false, cond, List, length, Option, None, Some, is_some, refl, sym, ap, subst, ◌∙◌, arith}
use Rattle.std.proofs.lemmas.List.{length-map}
use Rattle.std.specs.Option.{option_map}
use Rattle.std.specs.Str.{bytes_eq}
use Rattle.std.specs.FinMap.{empty, entries, get, len-empty, len-entries}
use Rattle.trie_model.specs.State.{State}
use Rattle.trie_model.specs.Root.{zero_digest}
use Rattle.batch_model.specs.Changes.{Changes}
use Rattle.base_core.specs.Bounds.{most_blocks, most_pairs}
use Rattle.base_core.proofs.ByteMaps.{order}
use Rattle.fork_model.specs.Trees.{BlockTree, BlockFault, Header, IsTree, after_block, block_fault, block_of, grown, grown_unless, moved, start}
use Rattle.fork_model.specs.States.{Block, ForkState, IsForkState, after_offer, block_at, first_fork, head_moved, tree_of_blocks, with_block, with_block_unless}
use Rattle.fork_model.proofs.Faults.{accepted}
use Rattle.fork_model.proofs.Passed.{passed-head}
use Rattle.fork_model.proofs.States.{after_offer-keeps, block_of-at, first-is, head_moved-keeps, tree-after_offer, tree-moved}
use Rattle.fork_tree.specs.Answers.{IsPlan}
use Rattle.fork_tree.specs.declared.ids.Move.{Move}
use Rattle.flat_store.specs.Flats.{AreOfOne, FlatState, HasSameBlocks, IsFlatOf, laid_over, map_of}
use Rattle.flat_store.proofs.Counts.{blocks-kept}
use Rattle.flat_store.proofs.Follows.{same_blocks}

pub together-start : (tree : BlockTree) (flat : FlatState) → tree ≡ start → IsFlatOf first_fork flat → AreOfOne tree flat
together-start tree flat at is = record { blocks = first_fork; well = first-is; shape = sym at; kept = is }

pub together-same : (tree : BlockTree) (flat : FlatState) → AreOfOne tree flat → HasSameBlocks tree flat.deltas
together-same tree flat one = subst (λ t. HasSameBlocks t flat.deltas) one.shape (same_blocks one.blocks flat one.kept)

pub together-stay : (tree next : BlockTree) (old new : FlatState) → AreOfOne tree old → next ≡ tree → ((blocks : ForkState) → IsFlatOf blocks old → IsFlatOf blocks new) → AreOfOne next new
together-stay tree next old new one same stays = record { blocks = one.blocks; well = one.well; shape = one.shape ∙ sym same; kept = stays one.blocks one.kept }

module _ (most : ℕ) (tree : BlockTree) (header : Header) (flat : FlatState) (one : AreOfOne tree flat) (fine : block_fault most tree header ≡ None) where
  -- no more blocks have changes than may be added to
  pub together-few : most ≤ most_blocks → length (entries flat.deltas) < most_blocks
  together-few bound =
      let count = blocks-kept one.blocks flat one.well one.kept in
      let all : length tree.blocks ≡ length one.blocks.blocks = sym (ap (λ (t : BlockTree). length t.blocks) one.shape) ∙ length-map one.blocks.blocks (λ (b : Block). b.header) in
      let room = (accepted most tree header fine).room in
      omega (arith, count, all, room, bound)

  pub together-new : get flat.deltas header.id ≡ None
  together-new = by_case (get flat.deltas header.id) (together-same tree flat one header.id ∙ none (bytes_eq header.id tree.head) (block_of tree.blocks header.id) (accepted most tree header fine).new)
    where
      none : (b : Bool) (o : Option Header) → o ≡ None → is_some (cond b None (option_map (λ (h : Header). h.prev) o)) ≡ false
      none true o e = refl
      none false o e = ap (λ (p : Option Header). is_some (option_map (λ (h : Header). h.prev) p)) e

      by_case : (o : Option Changes) → is_some o ≡ false → o ≡ None
      by_case None e = refl
      by_case (Some c) e = absurd cc

  pub together-add : (changes : Changes) (next : BlockTree) (new : FlatState) → next ≡ grown tree header
      → ((m : ℕ) (blocks : ForkState) (h : Header) → h.id ≡ header.id → block_fault m (tree_of_blocks blocks) h ≡ None → IsFlatOf blocks flat → IsFlatOf (with_block blocks h changes) new) → AreOfOne next new
  unfolding after_offer after_block
  together-add changes next new more adds =
      let fault : block_fault most (tree_of_blocks one.blocks) header ≡ None = ap (λ t. block_fault most t header) one.shape ∙ fine in
      record {
        blocks = with_block one.blocks header changes;
        well = after_offer-keeps most one.blocks header changes one.well (accepted most (tree_of_blocks one.blocks) header fault);
        shape = ap tree_of_blocks (sym (ap (λ (o : Option BlockFault). with_block_unless o one.blocks header changes) fault)) ∙ tree-after_offer most one.blocks header changes
            ∙ ap (λ (o : Option BlockFault). grown_unless o (tree_of_blocks one.blocks) header) fault ∙ ap (λ t. grown t header) one.shape ∙ sym more;
        kept = adds most one.blocks header refl fault one.kept;
      }

pub together-moved : (tree next : BlockTree) (old new : FlatState) (id : List ℕ) (plan : Move) → AreOfOne tree old → IsPlan tree id plan → next ≡ moved tree id
    → ((blocks : ForkState) (q : List ℕ) → IsForkState blocks → IsPlan (tree_of_blocks blocks) q plan → IsFlatOf blocks old → IsFlatOf (head_moved blocks q) new) → AreOfOne next new
together-moved tree next old new id plan one planned moves to =
    let here : IsPlan (tree_of_blocks one.blocks) id plan = subst (λ t. IsPlan t id plan) (sym one.shape) planned in
    let found = live_at (block_at one.blocks.blocks id) (ap is_some (sym (block_of-at one.blocks.blocks id)) ∙ here.live) in
    record {
      blocks = head_moved one.blocks id;
      well = head_moved-keeps one.blocks one.well id found.0 found.1;
      shape = tree-moved one.blocks id ∙ ap (λ t. moved t id) one.shape ∙ sym moves;
      kept = to one.blocks id one.well here one.kept;
    }
  where
    live_at : (o : Option Block) → is_some (option_map (λ (b : Block). b.header) o) ≡ true → (b : Block) × (o ≡ Some b)
    live_at None e = absurd cc
    live_at (Some b) e = (b, refl)

-- the head's map has no pairs at the start
pub together-none : (tree : BlockTree) (flat : FlatState) → tree ≡ start → flat.head ≡ empty → length (entries (map_of flat tree zero_digest)) ≤ most_pairs
unfolding laid_over
together-none tree flat at none =
    let nothing : map_of flat tree zero_digest ≡ empty = ap (λ t. map_of flat t zero_digest) at ∙ ap (λ ids. laid_over flat.deltas ids flat.head) (passed-head start first-is.tree) ∙ none in
    let count : length (entries (map_of flat tree zero_digest)) ≡ 0 = ap (λ (s : State). length (entries s)) nothing ∙ sym (len-entries _) ∙ len-empty order (List ℕ) in
    omega (arith, count)

pub together-tree : (tree : BlockTree) (flat : FlatState) → AreOfOne tree flat → IsTree tree
together-tree tree flat one = subst IsTree one.shape one.well.tree
