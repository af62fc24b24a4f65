-- What is kept after a move of the head.
use Rattle.std.proofs.Common.{◌≡◌, ℕ, Bool, true, false, cond, not, ◌&&◌, ◌||◌, List, filter, Option, None, Some, is_some, refl, sym, ap, ◌∙◌}
use Rattle.std.specs.Option.{option_map}
use Rattle.std.specs.Str.{bytes_eq}
use Rattle.std.specs.FinMap.{get}
use Rattle.batch_model.specs.Changes.{Changes}
use Rattle.fork_model.specs.Trees.{BlockTree, Header, block_of, descends, dropped, is_among, line, passed}
use Rattle.fork_model.specs.States.{Block, ForkState, IsForkState, block_at, head_moved, tree_of_blocks}
use Rattle.fork_model.proofs.Ids.{found-filter, same-itself, same_from}
use Rattle.fork_model.proofs.Descent.{descends-both, descends-itself}
use Rattle.fork_model.proofs.Lines.{id_key}
use Rattle.fork_model.proofs.Partition.{among_ids, filter-map}
use Rattle.fork_model.proofs.Passed.{line-passed}
use Rattle.fork_model.proofs.States.{block_of-at}
use Rattle.fork_model.proofs.Told.{found_live, states-kept}
use Rattle.fork_tree.specs.Answers.{IsPlan}
use Rattle.fork_tree.specs.declared.ids.Move.{Move}
use Rattle.flat_store.specs.Flats.{FlatState, IsFlatOf, laid_over, left_of}
use Rattle.flat_store.proofs.Follows.{state-told}

-- A block whose changes are kept is neither dropped nor on the line to the new head (h: it was the head; p: it is passed); d: it descends from the new head; e: it is the new head.
kept_by : (h p d e : Bool) (x : Option Changes) → (e ≡ true → (h || p) ≡ true) → (e ≡ true → d ≡ true) → ((h || p) ≡ true → d ≡ true → e ≡ true)
    → cond (not (h || p) && not d) None (cond p None (cond h None x)) ≡ cond e None (cond d x None)
kept_by true true d true x on under one = refl
kept_by true false d true x on under one = refl
kept_by false true d true x on under one = refl
kept_by false false d true x on under one = let no : false ≡ true = on refl in absurd cc
kept_by true true true false x on under one = let no : false ≡ true = one refl refl in absurd cc
kept_by true false true false x on under one = let no : false ≡ true = one refl refl in absurd cc
kept_by false true true false x on under one = let no : false ≡ true = one refl refl in absurd cc
kept_by false false true false x on under one = refl
kept_by true true false false x on under one = refl
kept_by true false false false x on under one = refl
kept_by false true false false x on under one = refl
kept_by false false false false x on under one = refl

module _ (tree : BlockTree) (id : List ℕ) where
  abbrev goes : List ℕ → Bool
  goes q = not (is_among q (line tree id)) && not (descends tree id q)

  among-dropped : (q : List ℕ) (b : Header) → block_of tree.blocks q ≡ Some b → is_among q (dropped tree id) ≡ goes q
  unfolding dropped block_of line
  among-dropped q b at =
      ap (is_among q) (filter-map goes id_key tree.blocks) ∙ among_ids id_key (filter (λ (h : Header). goes h.id) tree.blocks) q ∙ ap is_some (found-filter id_key goes tree.blocks q)
      ∙ ap (λ (o : Option Header). is_some (cond (goes q) o None)) at ∙ by_test (goes q)
    where
      by_test : (t : Bool) → is_some (cond {A = Option Header} t (Some b) None) ≡ t
      by_test true = refl
      by_test false = refl

module _ (blocks : ForkState) (old new : FlatState) (id : List ℕ) (plan : Move) (well : IsForkState blocks) (planned : IsPlan (tree_of_blocks blocks) id plan) (is : IsFlatOf blocks old) where
  abbrev tree : BlockTree
  tree = tree_of_blocks blocks

  abbrev target : Header
  target = (found_live (block_of tree.blocks id) planned.live).0

  target-at : block_of tree.blocks id ≡ Some target
  target-at = (found_live (block_of tree.blocks id) planned.live).1

  on-line : (q : List ℕ) → is_among q (line tree id) ≡ (bytes_eq q blocks.head || is_among q (passed tree id))
  on-line q = ap (is_among q) (line-passed tree well.tree id target target-at)

  -- the changes of a live block that are left are those of one that stays
  left-kept : (q : List ℕ) (b : Header) (x : Option Changes) → block_of tree.blocks q ≡ Some b
      → left_of (dropped tree id) q (left_of (passed tree id) q (cond (bytes_eq q blocks.head) None x)) ≡ cond (bytes_eq q id) None (cond (descends tree id q) x None)
  unfolding descends
  left-kept q b x at =
      ap (λ t. cond t None (cond (is_among q (passed tree id)) None (cond (bytes_eq q blocks.head) None x))) (among-dropped tree id q b at ∙ ap (λ t. not t && not (descends tree id q)) (on-line q))
      ∙ kept_by (bytes_eq q blocks.head) (is_among q (passed tree id)) (descends tree id q) (bytes_eq q id) x
      (λ same. sym (on-line q) ∙ ap (λ k. is_among k (line tree id)) (same_from q id same) ∙ descends-itself tree well.tree id target target-at)
      (λ same. ap (descends tree id) (same_from q id same) ∙ descends-itself tree well.tree id target target-at)
      (λ on under. ap (λ k. bytes_eq k id) (descends-both tree well.tree q id b target at target-at (on-line q ∙ on) under) ∙ same-itself id)

  left-all : (q : List ℕ) (o : Option Block) → block_at blocks.blocks q ≡ o
      → left_of (dropped tree id) q (left_of (passed tree id) q (cond (bytes_eq q blocks.head) None (option_map (λ (b : Block). b.changes) o))) ≡ cond (bytes_eq q id) None (option_map (λ (b : Block). b.changes) (cond (descends tree id q) o None))
  left-all q None at = by_tests (is_among q (dropped tree id)) (is_among q (passed tree id)) (bytes_eq q blocks.head) (bytes_eq q id) (descends tree id q)
    where
      by_tests : (a b c d e : Bool) → cond a None (cond b None (cond {A = Option Changes} c None None)) ≡ cond d None (option_map (λ (b : Block). b.changes) (cond e None None))
      by_tests true b c true e = refl
      by_tests true b c false true = refl
      by_tests true b c false false = refl
      by_tests false true c true e = refl
      by_tests false true c false true = refl
      by_tests false true c false false = refl
      by_tests false false true true e = refl
      by_tests false false true false true = refl
      by_tests false false true false false = refl
      by_tests false false false true e = refl
      by_tests false false false false true = refl
      by_tests false false false false false = refl
  left-all q (Some block) at =
      left-kept q block.header (Some block.changes) (block_of-at blocks.blocks q ∙ ap (option_map (λ (b : Block). b.header)) at) ∙ ap (cond (bytes_eq q id) None) (by_test (descends tree id q))
    where
      by_test : (t : Bool) → cond t (Some block.changes) None ≡ option_map (λ (b : Block). b.changes) (cond t (Some block) None)
      by_test true = refl
      by_test false = refl

  pub flat-moved : new.head ≡ laid_over old.deltas plan.passed old.head → ((q : List ℕ) → get new.deltas q ≡ left_of plan.dropped q (left_of plan.passed q (get old.deltas q))) → IsFlatOf (head_moved blocks id) new
  unfolding head_moved
  flat-moved head deltas = record {
    head = ap (option_map (λ (b : Block). b.state)) (states-kept blocks id id ∙ ap (λ t. cond t (block_at blocks.blocks id) None) (descends-itself tree well.tree id target target-at))
        ∙ state-told blocks old well is id planned.live ∙ ap Some (ap (λ ids. laid_over old.deltas ids old.head) (sym planned.passed) ∙ sym head);
    deltas = λ q. deltas q ∙ ap (λ ids. left_of ids q (left_of plan.passed q (get old.deltas q))) planned.dropped ∙ ap (λ ids. left_of (dropped tree id) q (left_of ids q (get old.deltas q))) planned.passed
        ∙ ap (λ (o : Option Changes). left_of (dropped tree id) q (left_of (passed tree id) q o)) (is.deltas q) ∙ left-all q (block_at blocks.blocks q) refl
        ∙ ap (λ (o : Option Block). cond (bytes_eq q id) None (option_map (λ (b : Block). b.changes) o)) (sym (states-kept blocks id q));
  }
