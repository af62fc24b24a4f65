-- What is counted over live blocks, whatever is counted: as blocks are accepted and the head moves.
use Rattle.std.proofs.Common.{◌≡◌, ◌≢◌, ℕ, ◌+◌, ◌-◌, ◌≤◌, Bool, true, false, cond, not, ◌||◌, List, [], ◌∷◌, ◌++◌, map, Option, None, Some, is_some, inl, inr, ⊎_elim, refl, sym, ◌∙◌, ap, ap₂, subst, arith}
use Rattle.std.specs.List.{filter, sum_by}
use Rattle.std.specs.List.Sorted.{IsPermutation}
use Rattle.std.specs.Option.{option_map, option_and_then}
use Rattle.std.specs.Str.{bytes_eq}
use Rattle.std.proofs.lemmas.List.{append_assoc, map-append}
use Rattle.std.proofs.lemmas.List.Elements.{filter-append}
use Rattle.std.proofs.lemmas.List.Sums.{sum_by-append, sum_by-cons, sum_by_push}
use Rattle.std.proofs.lemmas.List.Sorted.{sum_by-IsPermutation}
use Rattle.trie_model.specs.State.{State}
use Rattle.trie_model.proofs.Members.{IsIn}
use Rattle.batch_model.specs.Changes.{Changes, after}
use Rattle.change_model.proofs.Filtered.{in_filter_from}
use Rattle.fork_model.specs.Trees.{Header, BlockTree, block_of, descends, dropped, ids_of, moved, passed, prev_of}
use Rattle.fork_model.specs.States.{Block, ForkState, IsForkState, block_at, head_moved, state_at, tree_of_blocks, with_block}
use Rattle.fork_model.specs.Laws.{ids_behind}
use Rattle.fork_model.proofs.Ids.{found, apart_from, apart_is, found-behind, found-here, found-push_new, found-push_old, found_not_none, same-itself, same_or_other}
use Rattle.fork_model.proofs.Lines.{by_lines, head-live, stands_in, StandsIn}
use Rattle.fork_model.proofs.Faults.{IsAccepted}
use Rattle.fork_model.proofs.Descent.{descends-itself, descends-over}
use Rattle.fork_model.proofs.Moves.{or_false}
use Rattle.fork_model.proofs.Passed.{behind_head, passed-head, passed-over, was-live}
use Rattle.fork_model.proofs.Partition.{dropped-head, moved-head}
use Rattle.fork_model.proofs.States.{block_key, block_of-at, over_prev, tree-moved, with_block-is}
use Rattle.fork_model.proofs.Told.{all-told, states-kept}
use Rattle.count_model.specs.Counts.{Measure, counted, fall, in_state, rise, taken_away}
use Rattle.count_model.proofs.Sums.{sum_by-in}

-- ---- ids of live blocks

pub found_of_in : {B : Type 0} (key : B → List ℕ) (bs : List B) (q : List ℕ) → IsIn (map key bs) q → (b : B) × (found key bs q ≡ Some b)
found_of_in key [] q i = absurd i
found_of_in key (b ∷ bs) q (inl e) = (b, found-here key b bs q (sym e))
found_of_in {B} key (b ∷ bs) q (inr i) =
    let behind = found_of_in key bs q i in
    ⊎_elim
    (λ (same : q ≡ key b). (b, found-here key b bs q same))
    (λ other. (behind.0, found-behind key b bs q other ∙ behind.1))
    (same_or_other q (key b))

live_of_in : (tree : BlockTree) (q : List ℕ) → IsIn (ids_of tree.blocks) q → (b : Header) × (block_of tree.blocks q ≡ Some b)
unfolding block_of
live_of_in tree q i = found_of_in (λ block. block.id) tree.blocks q i

-- the other blocks than the head
pub record IsBehind (tree : BlockTree) (q : List ℕ) : Type 0 where
  pub block : Header
  pub is : block_of tree.blocks q ≡ Some block
  pub other : q ≢ tree.head

pub behind_of_in : (tree : BlockTree) (q : List ℕ) → IsIn (ids_behind tree) q → IsBehind tree q
behind_of_in tree q i =
    let parts = in_filter_from (λ id. not (bytes_eq id tree.head)) (ids_of tree.blocks) q i in
    let live = live_of_in tree q parts.0 in
    record { block = live.0; is = live.1; other = apart_from q tree.head (is_false (bytes_eq q tree.head) parts.1) }
  where
    is_false : (b : Bool) → not b ≡ true → b ≡ false
    is_false true h = cc
    is_false false h = refl

pub prev_of-behind : (tree : BlockTree) (q : List ℕ) (b : Header) → block_of tree.blocks q ≡ Some b → q ≢ tree.head → prev_of tree q ≡ Some b.prev
prev_of-behind tree q b at other =
    ap (λ t. cond t None (option_map (λ (block : Header). block.prev) (block_of tree.blocks q))) (apart_is q tree.head other)
    ∙ ap (option_map (λ (block : Header). block.prev)) at

pub prev_of-head : (tree : BlockTree) → prev_of tree tree.head ≡ None
prev_of-head tree = ap (λ t. cond t None (option_map (λ (block : Header). block.prev) (block_of tree.blocks tree.head))) (same-itself tree.head)

-- ---- numbers

balanced : (a b : ℕ) → a + (b - a) ≡ b + (a - b)
balanced a b = omega arith

less_none : (n : ℕ) → n - 0 ≡ n
less_none n = omega arith

none_less : (n : ℕ) → 0 - n ≡ 0
none_less n = omega arith

module _ (measure : Measure) where
  -- ---- one block

  pub rise-head : (forks : ForkState) → rise measure forks forks.head ≡ in_state measure (state_at forks forks.head)
  unfolding rise
  rise-head forks = ap (λ o. in_state measure (state_at forks forks.head) - in_state measure (option_and_then (state_at forks) o)) (prev_of-head (tree_of_blocks forks)) ∙ less_none (in_state measure (state_at forks forks.head))

  pub fall-head : (forks : ForkState) → fall measure forks forks.head ≡ 0
  unfolding fall
  fall-head forks = ap (λ o. in_state measure (option_and_then (state_at forks) o) - in_state measure (state_at forks forks.head)) (prev_of-head (tree_of_blocks forks)) ∙ none_less (in_state measure (state_at forks forks.head))

  module _ (forks : ForkState) (q : List ℕ) (b : Header) (at : block_of (tree_of_blocks forks).blocks q ≡ Some b) (other : q ≢ forks.head) where
    abbrev here : ℕ
    here = in_state measure (state_at forks q)

    abbrev former : ℕ
    former = in_state measure (state_at forks b.prev)

    pub rise-behind : rise measure forks q ≡ here - former
    unfolding rise
    rise-behind = ap (λ o. here - in_state measure (option_and_then (state_at forks) o)) (prev_of-behind (tree_of_blocks forks) q b at other)

    pub fall-behind : fall measure forks q ≡ former - here
    unfolding fall
    fall-behind = ap (λ o. in_state measure (option_and_then (state_at forks) o) - here) (prev_of-behind (tree_of_blocks forks) q b at other)

    pub one-balanced : former + rise measure forks q ≡ here + fall measure forks q
    one-balanced = let r = rise-behind in let f = fall-behind in let e = balanced former here in omega (arith, r, f, e)

  -- what a block has more or less than its prev stays
  pub record SidesStay (next forks : ForkState) (q : List ℕ) : Type 0 where
    pub rises : rise measure next q ≡ rise measure forks q
    pub falls : fall measure next q ≡ fall measure forks q

  sides_stay : (next forks : ForkState) (q : List ℕ) (b : Header) → block_of (tree_of_blocks next).blocks q ≡ Some b → q ≢ next.head → block_of (tree_of_blocks forks).blocks q ≡ Some b → q ≢ forks.head → state_at next q ≡ state_at forks q → state_at next b.prev ≡ state_at forks b.prev → SidesStay next forks q
  sides_stay next forks q b at_next other_next at other here former = record {
    rises = rise-behind next q b at_next other_next ∙ ap₂ (λ (x y : Option State). in_state measure x - in_state measure y) here former ∙ sym (rise-behind forks q b at other);
    falls = fall-behind next q b at_next other_next ∙ ap₂ (λ (x y : Option State). in_state measure x - in_state measure y) former here ∙ sym (fall-behind forks q b at other);
  }

  -- ---- all live blocks

  module _ (forks : ForkState) (is : IsForkState forks) where
    abbrev tree : BlockTree
    tree = tree_of_blocks forks

    abbrev at_head : ℕ
    at_head = in_state measure (state_at forks forks.head)

    -- the sum over all, since the head rises by all that its state has
    pub counted-all : counted measure forks ≡ sum_by (rise measure forks) (ids_of tree.blocks)
    unfolding counted
    counted-all =
        let alone : IsPermutation (ids_of tree.blocks) (forks.head ∷ ids_behind tree)
        = subst (λ ids. IsPermutation (ids_of tree.blocks) (forks.head ∷ ids)) (ap₂ (λ (ps ds : List (List ℕ)). ps ++ ds ++ ids_behind (moved tree forks.head)) (passed-head tree is.tree) (dropped-head tree is.tree) ∙ ap ids_behind (moved-head tree is.tree))
        (all-told tree forks.head is.tree (let live = head-live tree is.tree in ap is_some live.1)) in
        ap (λ n. n + sum_by (rise measure forks) (ids_behind tree)) (sym (rise-head forks))
        ∙ sym (sum_by-cons (rise measure forks) forks.head (ids_behind tree))
        ∙ sum_by-IsPermutation (rise measure forks) _ _ alone

    -- ---- along a line

    rises_and_falls : (head former here rises falls rise fall : ℕ) → head + rises ≡ former + falls → former + rise ≡ here + fall → head + (rises + rise) ≡ here + (falls + fall)
    rises_and_falls head former here rises falls rise fall line one = omega (arith, line, one)

    pub line-balanced : (q : List ℕ) (b : Header) → block_of tree.blocks q ≡ Some b → at_head + sum_by (rise measure forks) (passed tree q) ≡ in_state measure (state_at forks q) + sum_by (fall measure forks) (passed tree q)
    line-balanced q b at = by_lines tree is.tree Balanced first step q b at
      where
        Balanced : List ℕ → Type 0
        Balanced q = at_head + sum_by (rise measure forks) (passed tree q) ≡ in_state measure (state_at forks q) + sum_by (fall measure forks) (passed tree q)

        first : Balanced forks.head
        first = subst (λ ids. at_head + sum_by (rise measure forks) ids ≡ at_head + sum_by (fall measure forks) ids) (sym (passed-head tree is.tree)) refl

        step : (q : List ℕ) (b : Header) → block_of tree.blocks q ≡ Some b → (q ≢ tree.head) → StandsIn tree q b → Balanced b.prev → Balanced q
        step q b at other s below =
            let ids = passed tree b.prev in
            subst (λ ids. at_head + sum_by (rise measure forks) ids ≡ in_state measure (state_at forks q) + sum_by (fall measure forks) ids) (sym (passed-over tree is.tree q b at other))
            (ap (λ n. at_head + n) (sum_by_push (rise measure forks) ids q)
            ∙ rises_and_falls at_head (in_state measure (state_at forks b.prev)) (in_state measure (state_at forks q)) (sum_by (rise measure forks) ids) (sum_by (fall measure forks) ids) (rise measure forks q) (fall measure forks q) below (one-balanced forks q b at other)
            ∙ ap (λ n. in_state measure (state_at forks q) + n) (sym (sum_by_push (fall measure forks) ids q)))

    -- ---- behind a move

    module _ (id : List ℕ) (c : Header) (at_id : block_of tree.blocks id ≡ Some c) where
      abbrev next : ForkState
      next = head_moved forks id

      pub state-kept : (q : List ℕ) → descends tree id q ≡ true → state_at next q ≡ state_at forks q
      state-kept q down = ap (option_map (λ block. block.state)) (states-kept forks id q ∙ ap (λ t. cond t (block_at forks.blocks q) None) down)

      -- what stays behind the new head rises as before
      pub sides-kept : (q : List ℕ) → IsBehind (moved tree id) q → SidesStay next forks q
      unfolding moved head_moved
      sides-kept q behind =
          let was = was-live tree is.tree id q behind.block behind.is in
          let other = behind_head tree is.tree id q was.0 behind.other in
          let both : (descends tree id behind.block.prev || bytes_eq id q) ≡ true = sym (descends-over tree is.tree id q behind.block was.1 other) ∙ was.0 in
          let up : descends tree id behind.block.prev ≡ true = sym (or_false _) ∙ ap (λ t. descends tree id behind.block.prev || t) (sym (apart_is id q (λ s. behind.other (sym s)))) ∙ both in
          sides_stay next forks q behind.block (subst (λ t. block_of t.blocks q ≡ Some behind.block) (sym (tree-moved forks id)) behind.is) behind.other was.1 other (state-kept q was.0) (state-kept behind.block.prev up)

      rise-kept : (q : List ℕ) → IsIn (ids_behind (moved tree id)) q → rise measure next q ≡ rise measure forks q
      rise-kept q i = (sides-kept q (behind_of_in (moved tree id) q i)).rises

      move-sums : (head here rises falls drops stay : ℕ) → head + rises ≡ here + falls → (here + stay) + (falls + drops) ≡ head + (rises + (drops + stay))
      move-sums head here rises falls drops stay line = omega (arith, line)

      pub counted-moved : counted measure next + taken_away measure forks id ≡ counted measure forks
      unfolding counted taken_away head_moved
      counted-moved =
          let rises = sum_by (rise measure forks) in
          let stay : List (List ℕ) = ids_behind (moved tree id) in
          let told : sum_by (rise measure forks) (tree.head ∷ passed tree id ++ dropped tree id ++ stay) ≡ at_head + (rises (passed tree id) + (rises (dropped tree id) + rises stay))
          = sum_by-cons (rise measure forks) tree.head (passed tree id ++ dropped tree id ++ stay)
          ∙ ap₂ (λ (a b : ℕ). a + b) (rise-head forks) (ap (sum_by (rise measure forks)) (append_assoc (passed tree id) (dropped tree id) stay) ∙ sum_by-append (rise measure forks) (passed tree id) (dropped tree id ++ stay) ∙ ap (λ n. rises (passed tree id) + n) (sum_by-append (rise measure forks) (dropped tree id) stay)) in
          let after : in_state measure (state_at next id) + sum_by (rise measure next) (ids_behind (tree_of_blocks next)) ≡ in_state measure (state_at forks id) + rises stay
          = ap₂ (λ (a b : ℕ). a + b) (ap (in_state measure) (state-kept id (descends-itself tree is.tree id c at_id)))
          (ap (λ t. sum_by (rise measure next) (ids_behind t)) (tree-moved forks id) ∙ sum_by-in (rise measure next) (rise measure forks) stay rise-kept) in
          ap (λ n. n + (sum_by (fall measure forks) (passed tree id) + rises (dropped tree id))) after
          ∙ move-sums at_head (in_state measure (state_at forks id)) (rises (passed tree id)) (sum_by (fall measure forks) (passed tree id)) (rises (dropped tree id)) (rises stay) (line-balanced id c at_id)
          ∙ sym told
          ∙ sum_by-IsPermutation (rise measure forks) _ _ (all-told tree id is.tree (ap is_some at_id))
          ∙ sym counted-all

      more : (here stay taken whole : ℕ) → here + stay + taken ≡ whole → here ≤ whole
      more here stay taken whole e = omega (arith, e)

      -- no live block has more than is counted
      pub counted-le : in_state measure (state_at forks id) ≤ counted measure forks
      unfolding counted head_moved
      counted-le = subst (λ o. in_state measure o ≤ counted measure forks) (state-kept id (descends-itself tree is.tree id c at_id)) (more (in_state measure (state_at next id)) (sum_by (rise measure next) (ids_behind (tree_of_blocks next))) (taken_away measure forks id) _ counted-moved)

    -- ---- with a block accepted

    module _ (most : ℕ) (header : Header) (changes : Changes) (prev : Block) (taken : IsAccepted most tree header) (at_prev : block_at forks.blocks header.prev ≡ Some prev) where
      abbrev grown_forks : ForkState
      grown_forks = record forks { blocks = forks.blocks ++ over_prev header changes prev ∷ [] }

      abbrev grown_tree : BlockTree
      grown_tree = tree_of_blocks grown_forks

      -- what was live is found as before
      block-kept : (q : List ℕ) (b : Block) → block_at forks.blocks q ≡ Some b → block_at grown_forks.blocks q ≡ Some b
      unfolding block_at
      block-kept q b at = found-push_old block_key forks.blocks (over_prev header changes prev) q b at

      live-block : (q : List ℕ) (h : Header) → block_of tree.blocks q ≡ Some h → (b : Block) × (block_at forks.blocks q ≡ Some b) × (b.header ≡ h)
      live-block q h at = by_case (block_at forks.blocks q) refl
        where
          by_case : (o : Option Block) → block_at forks.blocks q ≡ o → (b : Block) × (block_at forks.blocks q ≡ Some b) × (b.header ≡ h)
          by_case None e = absurd (found_not_none at (block_of-at forks.blocks q ∙ ap (option_map (λ block. block.header)) e))
          by_case (Some b) e = (b, e, cc (at, block_of-at forks.blocks q ∙ ap (option_map (λ block. block.header)) e))

      state-grown : (q : List ℕ) (h : Header) → block_of tree.blocks q ≡ Some h → state_at grown_forks q ≡ state_at forks q
      state-grown q h at = let b = live-block q h at in ap (option_map (λ block. block.state)) (block-kept q b.0 b.1 ∙ sym b.1)

      header-grown : (q : List ℕ) (h : Header) → block_of tree.blocks q ≡ Some h → block_of grown_tree.blocks q ≡ Some h
      header-grown q h at =
          let b = live-block q h at in
          block_of-at grown_forks.blocks q ∙ ap (option_map (λ block. block.header)) (block-kept q b.0 b.1) ∙ ap Some b.2

      pub sides-grown : (q : List ℕ) → IsBehind tree q → SidesStay grown_forks forks q
      sides-grown q behind =
          let over = (stands_in tree is.tree q behind.block behind.is behind.other).over in
          sides_stay grown_forks forks q behind.block (header-grown q behind.block behind.is) behind.other behind.is behind.other (state-grown q behind.block behind.is) (state-grown behind.block.prev over.prev over.is)

      rise-grown : (q : List ℕ) → IsIn (ids_behind tree) q → rise measure grown_forks q ≡ rise measure forks q
      rise-grown q i = (sides-grown q (behind_of_in tree q i)).rises

      new-apart : header.id ≢ forks.head
      new-apart same = let head = head-live tree is.tree in found_not_none head.1 (ap (block_of tree.blocks) (sym same) ∙ taken.new)

      none-at : block_at forks.blocks header.id ≡ None
      none-at = by_case (block_at forks.blocks header.id) refl
        where
          by_case : (o : Option Block) → block_at forks.blocks header.id ≡ o → o ≡ None
          by_case None e = refl
          by_case (Some b) e = absurd (found_not_none (block_of-at forks.blocks header.id ∙ ap (option_map (λ block. block.header)) e) taken.new)

      new-block : block_at grown_forks.blocks header.id ≡ Some (over_prev header changes prev)
      unfolding block_at
      new-block = found-push_new block_key forks.blocks (over_prev header changes prev) header.id none-at ∙ ap (λ t. cond t (Some (over_prev header changes prev)) None) (same-itself header.id)

      new-header : block_of grown_tree.blocks header.id ≡ Some header
      new-header = block_of-at grown_forks.blocks header.id ∙ ap (option_map (λ block. block.header)) new-block

      new-state : state_at grown_forks header.id ≡ Some (after prev.state changes)
      new-state = ap (option_map (λ block. block.state)) new-block

      prev-state : state_at grown_forks header.prev ≡ Some prev.state
      prev-state = ap (option_map (λ block. block.state)) (block-kept header.prev prev at_prev)

      pub rise-new : rise measure grown_forks header.id ≡ measure (after prev.state changes) - measure prev.state
      rise-new = rise-behind grown_forks header.id header new-header new-apart ∙ ap₂ (λ (a b : Option State). in_state measure a - in_state measure b) new-state prev-state

      pub fall-new : fall measure grown_forks header.id ≡ measure prev.state - measure (after prev.state changes)
      fall-new = fall-behind grown_forks header.id header new-header new-apart ∙ ap₂ (λ (a b : Option State). in_state measure a - in_state measure b) prev-state new-state

      behind-grown : ids_behind grown_tree ≡ ids_behind tree ++ header.id ∷ []
      behind-grown =
          ap (λ (bs : List Header). filter (λ q. not (bytes_eq q forks.head)) (ids_of bs)) (map-append (λ (block : Block). block.header) forks.blocks (over_prev header changes prev ∷ []))
          ∙ ap (filter (λ q. not (bytes_eq q forks.head))) (map-append (λ (h : Header). h.id) tree.blocks (header ∷ []))
          ∙ filter-append (λ q. not (bytes_eq q forks.head)) (ids_of tree.blocks) (header.id ∷ [])
          ∙ ap (λ t. ids_behind tree ++ cond (not t) (header.id ∷ []) []) (apart_is header.id forks.head new-apart)

      grown-sums : (head rises rise : ℕ) → head + (rises + rise) ≡ head + rises + rise
      grown-sums head rises rise = omega arith

      counted-grown : counted measure grown_forks ≡ counted measure forks + (measure (after prev.state changes) - measure prev.state)
      unfolding counted
      counted-grown =
          let head = head-live tree is.tree in
          ap₂ (λ (a b : ℕ). a + b) (ap (in_state measure) (state-grown forks.head head.0 head.1))
          (ap (sum_by (rise measure grown_forks)) behind-grown
          ∙ sum_by_push (rise measure grown_forks) (ids_behind tree) header.id
          ∙ ap₂ (λ (a b : ℕ). a + b) (sum_by-in (rise measure grown_forks) (rise measure forks) (ids_behind tree) rise-grown) rise-new)
          ∙ grown-sums at_head (sum_by (rise measure forks) (ids_behind tree)) (measure (after prev.state changes) - measure prev.state)

      pub counted-with_block : counted measure (with_block forks header changes) ≡ counted measure forks + (measure (after prev.state changes) - measure prev.state)
      counted-with_block = ap (counted measure) (with_block-is forks header changes prev at_prev) ∙ counted-grown
