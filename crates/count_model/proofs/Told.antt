-- What the laws on counts say, from the lemmas of the other files.
use Rattle.std.proofs.Common.{◌≡◌, ℕ, ◌+◌, ◌-◌, false, true, List, [], ◌++◌, Option, None, Some, IfSome, sym, ◌∙◌, ap, ap₂, subst}
use Rattle.std.specs.Option.{option_map, IsSomeAnd}
use Rattle.std.specs.Str.{bytes_eq}
use Rattle.std.specs.FinMap.{empty}
use Rattle.trie_model.specs.State.{State}
use Rattle.trie_model.proofs.Worked.{texts_of-empty}
use Rattle.batch_model.specs.Changes.{Changes, after}
use Rattle.fork_model.specs.Trees.{BlockTree, Header, block_fault, is_live, moved}
use Rattle.fork_model.specs.States.{Block, ForkState, IsForkState, block_at, first_fork, head_moved, state_at, tree_of_blocks, with_block}
use Rattle.fork_model.proofs.Ids.{apart_from}
use Rattle.fork_model.proofs.Lines.{prev_from}
use Rattle.fork_model.proofs.Faults.{IsAccepted, accepted}
use Rattle.fork_model.proofs.States.{block_of-at, tree-moved, with_block-is}
use Rattle.fork_model.proofs.Told.{found_live}
use Rattle.fork_model.proofs.Worked.{all_of_forks}
use Rattle.count_model.specs.Counts.{Measure, counted, fall, in_state, rise, taken_away}
use Rattle.count_model.specs.Tables.{live_texts}
use Rattle.count_model.proofs.Counted.{IsBehind, counted-moved, counted-with_block, fall-behind, fall-new, rise-behind, rise-new, sides-grown, sides-kept}
use Rattle.count_model.proofs.Live.{block-of_state}

-- at the start there is the empty state alone
pub counted-start : (measure : Measure) → measure empty ≡ 0 → counted measure first_fork ≡ 0
unfolding all_of_forks counted
counted-start measure none = ap (λ n. n + 0) none

pub live-start : live_texts first_fork ≡ []
unfolding live_texts
live-start = ap (λ texts. texts ++ []) texts_of-empty

-- ---- a block

pub counted-block : (measure : Measure) (most : ℕ) (forks : ForkState) (header : Header) (changes : Changes) (prev : State) → IsForkState forks → block_fault most (tree_of_blocks forks) header ≡ None → state_at forks header.prev ≡ Some prev → counted measure (with_block forks header changes) ≡ counted measure forks + (measure (after prev changes) - measure prev)
counted-block measure most forks header changes prev is fault at =
    let block = block-of_state forks header.prev prev at in
    counted-with_block measure forks is most header changes block.0 (accepted most (tree_of_blocks forks) header fault) block.1
    ∙ ap (λ (s : State). counted measure forks + (measure (after s changes) - measure s)) block.2

-- ---- a move

pub counted-move : (measure : Measure) (forks : ForkState) (id : List ℕ) → IsForkState forks → is_live (tree_of_blocks forks) id ≡ true → counted measure (head_moved forks id) + taken_away measure forks id ≡ counted measure forks
counted-move measure forks id is live = let b = found_live _ live in counted-moved measure forks is id b.0 b.1

-- ---- one block against its prev

module _ (measure : Measure) (forks : ForkState) (id : List ℕ) (block : Block) (prev : State) (is : IsForkState forks) (other : bytes_eq id forks.head ≡ false) (at : block_at forks.blocks id ≡ Some block) (at_prev : state_at forks block.header.prev ≡ Some prev) where
  -- the state is that of its prev with its changes laid over
  pub state-laid : block.state ≡ after prev block.changes
  state-laid = laid (block_at forks.blocks id) at (is.states id other)
    where
      laid : (o : Option Block) → o ≡ Some block → IfSome o (λ b. IsSomeAnd (block_at forks.blocks b.header.prev) (λ p. b.state ≡ after p.state b.changes)) → block.state ≡ after prev block.changes
      laid o e h =
          let over = prev_from {X = Block} (block_at forks.blocks block.header.prev) (λ p. block.state ≡ after p.state block.changes) (subst (λ x. IfSome x (λ b. IsSomeAnd (block_at forks.blocks b.header.prev) (λ p. b.state ≡ after p.state b.changes))) e h) in
          let same : over.prev.state ≡ prev = cc (at_prev, ap (option_map (λ (b : Block). b.state)) over.is) in
          over.has ∙ ap (λ (s : State). after s block.changes) same

  states-told : (f : ℕ → ℕ → ℕ) → f (in_state measure (state_at forks id)) (in_state measure (state_at forks block.header.prev)) ≡ f (measure (after prev block.changes)) (measure prev)
  states-told f = ap₂ f (ap (in_state measure) (ap (option_map (λ (b : Block). b.state)) at) ∙ ap measure state-laid) (ap (in_state measure) at_prev)

  pub rise-told : rise measure forks id ≡ measure (after prev block.changes) - measure prev
  rise-told = rise-behind measure forks id block.header (block_of-at forks.blocks id ∙ ap (option_map (λ (b : Block). b.header)) at) (apart_from id forks.head other) ∙ states-told (λ here former. here - former)

  pub fall-told : fall measure forks id ≡ measure prev - measure (after prev block.changes)
  fall-told = fall-behind measure forks id block.header (block_of-at forks.blocks id ∙ ap (option_map (λ (b : Block). b.header)) at) (apart_from id forks.head other) ∙ states-told (λ here former. former - here)

-- ---- blocks that stay

-- a live block other than the head
behind_from : (tree : BlockTree) (q : List ℕ) → is_live tree q ≡ true → bytes_eq q tree.head ≡ false → IsBehind tree q
behind_from tree q live other = let b = found_live _ live in record { block = b.0; is = b.1; other = apart_from q tree.head other }

module _ (measure : Measure) (most : ℕ) (forks : ForkState) (header : Header) (changes : Changes) (prev : State) (is : IsForkState forks) (fault : block_fault most (tree_of_blocks forks) header ≡ None) (at : state_at forks header.prev ≡ Some prev) where
  taken : IsAccepted most (tree_of_blocks forks) header
  taken = accepted most (tree_of_blocks forks) header fault

  pub sides-block : (q : List ℕ) → is_live (tree_of_blocks forks) q ≡ true → bytes_eq q forks.head ≡ false → (rise measure (with_block forks header changes) q ≡ rise measure forks q) × (fall measure (with_block forks header changes) q ≡ fall measure forks q)
  sides-block q live other =
      let block = block-of_state forks header.prev prev at in
      let sides = sides-grown measure forks is most header changes block.0 taken block.1 q (behind_from (tree_of_blocks forks) q live other) in
      subst (λ (next : ForkState). (rise measure next q ≡ rise measure forks q) × (fall measure next q ≡ fall measure forks q)) (sym (with_block-is forks header changes block.0 block.1)) (sides.rises, sides.falls)

  pub sides-new : (rise measure (with_block forks header changes) header.id ≡ measure (after prev changes) - measure prev) × (fall measure (with_block forks header changes) header.id ≡ measure prev - measure (after prev changes))
  sides-new =
      let block = block-of_state forks header.prev prev at in
      subst (λ (next : ForkState). (rise measure next header.id ≡ measure (after prev changes) - measure prev) × (fall measure next header.id ≡ measure prev - measure (after prev changes))) (sym (with_block-is forks header changes block.0 block.1)) (
        rise-new measure forks is most header changes block.0 taken block.1 ∙ ap (λ (s : State). measure (after s changes) - measure s) block.2,
        fall-new measure forks is most header changes block.0 taken block.1 ∙ ap (λ (s : State). measure s - measure (after s changes)) block.2,
      )

pub sides-move : (measure : Measure) (forks : ForkState) (id q : List ℕ) → IsForkState forks → is_live (tree_of_blocks forks) id ≡ true → is_live (tree_of_blocks (head_moved forks id)) q ≡ true → bytes_eq q id ≡ false → (rise measure (head_moved forks id) q ≡ rise measure forks q) × (fall measure (head_moved forks id) q ≡ fall measure forks q)
unfolding moved
sides-move measure forks id q is live stays other =
    let b = found_live _ live in
    let sides = sides-kept measure forks is id b.0 b.1 q (behind_from (moved (tree_of_blocks forks) id) q (subst (λ t. is_live t q ≡ true) (tree-moved forks id) stays) other) in
    (sides.rises, sides.falls)
