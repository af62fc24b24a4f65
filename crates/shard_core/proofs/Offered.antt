-- A block without a fault over a shard: what each of its ends leaves.
use Rattle.std.proofs.Common.{◌≡◌, ℕ, ◌≤◌, ◌<◌, List, [], ◌∷◌, ◌++◌, length, Option, None, Some, IfSome, Result, Ok, Err, ◌⊎◌, inl, inr, refl, sym, ap, subst, ◌∙◌, arith}
use Rattle.std.specs.List.{AllByRecursion}
use Rattle.std.specs.FinMap.{entries, get, len}
use Rattle.trie_model.specs.State.{State}
use Rattle.trie_model.specs.Root as trie
use Rattle.change_model.specs.Visits.{batch_visits}
use Rattle.trie_model.proofs.Members.{IsIn, all_at, all_of, in-append_cases}
use Rattle.batch_model.specs.Changes.{AreChanges, Changes, after}
use Rattle.fork_model.specs.Trees.{BlockFault, Header, after_block, block_fault, grown, grown_unless}
use Rattle.fork_model.specs.States.{Block, ForkState, after_offer, state_at, tree_of_blocks, with_block, with_block_unless}
use Rattle.fork_model.proofs.States.{over_prev, tree-after_offer, with_block-is}
use Rattle.count_model.proofs.Live.{block-of_state}
use Rattle.count_model.specs.BlockEnds.{block_end}
use Rattle.count_model.specs.Clashes.{made_clash}
use Rattle.count_model.specs.Loads.{carry_out, loads}
use Rattle.base_core.specs.Bounds.{AreLimits, most_blocks}
use Rattle.base_core.specs.Faults.{Ended, done, faults_after}
use Rattle.base_core.specs.declared.hash.Digest.{Digest}
use Rattle.base_core.specs.declared.limits.Limits.{Limits}
use Rattle.text_store.specs.Leaves.{CountsLoads, Leaves}
use Rattle.text_store.specs.Store.{Store}
use Rattle.fork_tree.specs.Kept.{ForkTree}
use Rattle.flat_store.specs.Flats.{AreOfOne, Deltas, FlatState, IsFlatOf}
use Rattle.flat_store.proofs.Together.{together-few, together-new}
use Rattle.shard_core.specs.Answers.{AnswersCarry, AnswersTake, IsCarried, IsOffered, IsPrev}
use Rattle.shard_core.specs.KeptTries.{AreTriesOf, IsAmidBlock}
use Rattle.shard_core.specs.Ledgers.{Ledgers, ledgers_of}
use Rattle.shard_core.specs.Shards.{IsShardOf, ShardState, shard_of}
use Rattle.shard_core.specs.ShardAnswers.{AnswersApply, LeavesApply}
use Rattle.shard_core.specs.declared.block.Applied.{Applied}
use Rattle.shard_core.specs.declared.errors.ApplyError.{ApplyError}
use Rattle.shard_core.specs.declared.errors.ApplyError.TheVariants.{Stopped, Known, NoPrev, Height, FullBlocks, FullPairs, Clash, StoreFault, NoMemory}
use Rattle.shard_core.specs.declared.tries.Carried.{Carried}
use Rattle.shard_core.specs.declared.tries.Tries.{Tries}
use Rattle.shard_core.proofs.Accepted.{answers-carry, answers-full, answers-ok, answers-take, loads-left, loads-on, prev-live}
use Rattle.shard_core.proofs.Taken.{amid-same, tries-unchanged}

-- ---- the blocks with it

pub tree-taken : (most : ℕ) (blocks : ForkState) (header : Header) (changes : Changes) → block_fault most (tree_of_blocks blocks) header ≡ None → tree_of_blocks (with_block blocks header changes) ≡ grown (tree_of_blocks blocks) header
unfolding after_offer after_block
tree-taken most blocks header changes fine =
    ap tree_of_blocks (sym (ap (λ (o : Option BlockFault). with_block_unless o blocks header changes) fine))
    ∙ tree-after_offer most blocks header changes
    ∙ ap (λ (o : Option BlockFault). grown_unless o (tree_of_blocks blocks) header) fine

few-taken : (most : ℕ) (blocks : ForkState) (header : Header) (changes : Changes) (state : State) → AllByRecursion (λ block. len block.state ≤ most) blocks.blocks → state_at blocks header.prev ≡ Some state → len (after state changes) ≤ most → AllByRecursion (λ block. len block.state ≤ most) (with_block blocks header changes).blocks
few-taken most blocks header changes state are at few =
    let block = block-of_state blocks header.prev state at in
    subst (λ (f : ForkState). AllByRecursion (λ block. len block.state ≤ most) f.blocks) (sym (with_block-is blocks header changes block.0 block.1))
    (all_of _ (blocks.blocks ++ over_prev header changes block.0 ∷ []) (λ b i. go block.0 block.2 b (in-append_cases blocks.blocks (over_prev header changes block.0 ∷ []) b i)))
  where
    go : (p : Block) → p.state ≡ state → (b : Block) → IsIn blocks.blocks b ⊎ IsIn (over_prev header changes p ∷ []) b → len b.state ≤ most
    go p same b (inl i) = all_at (λ block. len block.state ≤ most) blocks.blocks b are i
    go p same b (inr (inl e)) = subst (λ (x : Block). len x.state ≤ most) e (subst (λ (s : State). len (after s changes) ≤ most) (sym same) few)
    go p same b (inr (inr none)) = absurd none

module _ {N : Type 0} (store : Store N) (count_of : N → List ℕ → ℕ) (blocks : ForkState) (tries : Tries N) (forks : ForkTree) (flat : FlatState) (limits : Limits) (is : IsShardOf store count_of blocks (shard_of tries forks flat limits)) where
  -- ---- it is offered

  module _ (header : Header) (fine : block_fault limits.blocks forks.tree header ≡ None) where
    pub faultless-at : block_fault limits.blocks (tree_of_blocks blocks) header ≡ None
    faultless-at = ap (λ t. block_fault limits.blocks t header) (sym is.tree) ∙ fine

    pub prev-state : (state : State) × (state_at blocks header.prev ≡ Some state)
    prev-state = prev-live limits.blocks blocks header faultless-at

    pub over-prev : (state : State) × IsPrev (store.texts tries.nodes) (count_of tries.nodes) (ledgers_of tries.ledgers.entries) blocks header.prev state
    over-prev = let prev = prev-state in (prev.0, record { tries = is.tries; live = prev.1 })

    pub offered : AreLimits limits → (state : State) → state_at blocks header.prev ≡ Some state → (changes : Changes) → AreChanges changes → (carried : Carried) → IsCarried state changes carried → carried.pairs ≤ limits.pairs → IsOffered blocks limits.blocks header state changes carried
    offered bounds state at changes within carried is_carried few = record {
      live = at;
      faultless = faultless-at;
      bounded = bounds.few_blocks;
      within = within;
      is = is_carried;
      few = let most = bounds.few_pairs in omega (arith, few, most);
    }

  pub one-shard : AreOfOne forks.tree flat
  one-shard = record { blocks = blocks; well = is.tries.blocks; shape = sym is.tree; kept = is.flat }

  -- ---- it is not taken in

  module _ (later : Tries N) (next : ForkTree) (now : FlatState) (tree : next.tree ≡ forks.tree) (kept : IsFlatOf blocks flat → IsFlatOf blocks now) where
    pub stays-with : AreTriesOf (store.texts later.nodes) (count_of later.nodes) (ledgers_of later.ledgers.entries) blocks → IsShardOf store count_of blocks (shard_of later next now limits)
    stays-with still = record { tries = still; tree = tree ∙ is.tree; flat = kept is.flat; few = is.few }

  -- ---- it is taken in

  module _ (header : Header) (fine : block_fault limits.blocks forks.tree header ≡ None) (state : State) (at : state_at blocks header.prev ≡ Some state) (changes : Changes) (few : len (after state changes) ≤ limits.pairs) where
    pub stands-with : (later : Tries N) (next : ForkTree) (now : FlatState) → AreTriesOf (store.texts later.nodes) (count_of later.nodes) (ledgers_of later.ledgers.entries) (with_block blocks header changes)
        → next.tree ≡ grown forks.tree header → IsFlatOf (with_block blocks header changes) now → IsShardOf store count_of (with_block blocks header changes) (shard_of later next now limits)
    stands-with later next now still tree kept = record {
      tries = still;
      tree = tree ∙ ap (λ t. grown t header) is.tree ∙ sym (tree-taken limits.blocks blocks header changes (faultless-at header fine));
      flat = kept;
      few = few-taken limits.pairs blocks header changes state is.few at few;
    }

-- ---- by the error

module _ {N : Type 0} (store : Store N) (count_of : N → List ℕ → ℕ) (blocks : ForkState) (header : Header) (changes : Changes) (state : State) (at : state_at blocks header.prev ≡ Some state) (shard : ShardState N) where
  amid : IsAmidBlock (store.texts shard.nodes) (count_of shard.nodes) blocks state changes → IfSome (state_at blocks header.prev) (λ prev. IsAmidBlock (store.texts shard.nodes) (count_of shard.nodes) blocks prev changes)
  amid between = subst (λ o. IfSome o (λ prev. IsAmidBlock (store.texts shard.nodes) (count_of shard.nodes) blocks prev changes)) (sym at) between

  pub leaves-error : (error : ApplyError) → (error ≡ NoMemory → IsShardOf store count_of blocks shard) → IsAmidBlock (store.texts shard.nodes) (count_of shard.nodes) blocks state changes → AnswersTake blocks state changes {X = Digest} (Err error) → LeavesApply {X = Applied} store count_of blocks header changes (Err error) shard
  leaves-error Stopped stays between answer = absurd answer
  leaves-error Known stays between answer = absurd answer
  leaves-error NoPrev stays between answer = absurd answer
  leaves-error Height stays between answer = absurd answer
  leaves-error FullBlocks stays between answer = absurd answer
  leaves-error FullPairs stays between answer = absurd answer
  leaves-error (Clash digest) stays between answer = amid between
  leaves-error StoreFault stays between answer = amid between
  leaves-error NoMemory stays between answer = stays refl

  pub leaves-as_was : (error : ApplyError) → IsShardOf store count_of blocks shard → LeavesApply {X = Applied} store count_of blocks header changes (Err error) shard
  leaves-as_was Stopped is = is
  leaves-as_was Known is = is
  leaves-as_was NoPrev is = is
  leaves-as_was Height is = is
  leaves-as_was FullBlocks is = is
  leaves-as_was FullPairs is = is
  leaves-as_was (Clash digest) is = amid (amid-same (store.texts shard.nodes) (count_of shard.nodes) shard.ledgers blocks state changes is.tries)
  leaves-as_was StoreFault is = amid (amid-same (store.texts shard.nodes) (count_of shard.nodes) shard.ledgers blocks state changes is.tries)
  leaves-as_was NoMemory is = is

-- ---- as the call has it

module _ {N : Type 0} (store : Store N) (count_of : N → List ℕ → ℕ) (alike_texts : (a b : N) → store.alike a b → store.texts a ≡ store.texts b) (alike_counts : (a b : N) → store.alike a b → (digest : List ℕ) → count_of a digest ≡ count_of b digest)
    (blocks : ForkState) (tries : Tries N) (forks : ForkTree) (flat : FlatState) (limits : Limits) (is : IsShardOf store count_of blocks (shard_of tries forks flat limits)) (header : Header) (fine : block_fault limits.blocks forks.tree header ≡ None) (changes : Changes) (within : AreChanges changes) where
  -- the prev
  prev : (state : State) × IsPrev (store.texts tries.nodes) (count_of tries.nodes) (ledgers_of tries.ledgers.entries) blocks header.prev state
  prev = over-prev store count_of blocks tries forks flat limits is header fine

  fault : block_fault limits.blocks (tree_of_blocks blocks) header ≡ None
  fault = faultless-at store count_of blocks tries forks flat limits is header fine

  abbrev pub CarryAnswers : Result Carried ApplyError → Type 0
  CarryAnswers result = (forks : ForkState) (state : State) → IsPrev (store.texts tries.nodes) (count_of tries.nodes) (ledgers_of tries.ledgers.entries) forks header.prev state → AnswersCarry state changes result

  abbrev pub CarryLeaves : N → Ended → Type 0
  CarryLeaves new ended = (forks : ForkState) (state : State) → IsPrev (store.texts tries.nodes) (count_of tries.nodes) (ledgers_of tries.ledgers.entries) forks header.prev state → Leaves store tries.nodes new (batch_visits (store.texts tries.nodes) (trie.root state) changes).digests ended

  pub carry-refused : (error : ApplyError) → CarryAnswers (Err error) → AnswersApply (block_end limits.pairs limits.blocks blocks header changes) (Err error)
  carry-refused error answer = answers-carry limits.pairs limits.blocks blocks header changes prev.0 fault prev.1.live error (answer blocks prev.0 prev.1)

  module _ (later : Tries N) (ended : Ended) (ledgers : later.ledgers ≡ tries.ledgers) (left : CarryLeaves later.nodes ended) where
    left-here : Leaves store tries.nodes later.nodes (batch_visits (store.texts tries.nodes) (trie.root prev.0) changes).digests ended
    left-here = left blocks prev.0 prev.1

    still : AreTriesOf (store.texts later.nodes) (count_of later.nodes) (ledgers_of later.ledgers.entries) blocks
    still =
        let same : ledgers_of later.ledgers.entries ≡ ledgers_of tries.ledgers.entries = λ i. ledgers_of (ledgers i).entries in
        subst (λ (m : Ledgers). AreTriesOf (store.texts later.nodes) (count_of later.nodes) m blocks) (sym same)
        (tries-unchanged (store.texts tries.nodes) (store.texts later.nodes) (count_of tries.nodes) (count_of later.nodes) (ledgers_of tries.ledgers.entries) blocks is.tries (record { same_texts = sym (alike_texts tries.nodes later.nodes left-here.same); same_counts = λ q. sym (alike_counts tries.nodes later.nodes left-here.same q) }))

    pub carry-faults : store.faults later.nodes ≡ faults_after ended (store.faults tries.nodes)
    carry-faults = left-here.counted

    pub carry-loads : CountsLoads ended (store.loads tries.nodes) (store.loads later.nodes) (loads limits.blocks blocks (carry_out header changes))
    carry-loads = loads-left store count_of limits.blocks blocks (shard_of tries forks flat limits) header changes prev.0 is fault prev.1.live within ended later.nodes left-here

    -- it ends before a text is added
    module _ (next : ForkTree) (now : FlatState) (tree : next.tree ≡ forks.tree) (kept : IsFlatOf blocks flat → IsFlatOf blocks now) where
      pub still-shard : IsShardOf store count_of blocks (shard_of later next now limits)
      still-shard = stays-with store count_of blocks tries forks flat limits is later next now tree kept still

      pub carry-left : (error : ApplyError) → LeavesApply {X = Applied} store count_of blocks header changes (Err error) (shard_of later next now limits)
      carry-left error = leaves-as_was store count_of blocks header changes prev.0 prev.1.live (shard_of later next now limits) error still-shard

  -- ---- the batch is carried out

  module _ (later : Tries N) (ledgers : later.ledgers ≡ tries.ledgers) (left : CarryLeaves later.nodes done) (carried : Carried) (answer : CarryAnswers (Ok carried)) where
    carried-is : IsCarried prev.0 changes carried × (made_clash prev.0 changes ≡ None)
    carried-is = answer blocks prev.0 prev.1

    of-later : AreTriesOf (store.texts later.nodes) (count_of later.nodes) (ledgers_of later.ledgers.entries) blocks
    of-later = still later done ledgers left

    pub too-many : limits.pairs < carried.pairs → AnswersApply (block_end limits.pairs limits.blocks blocks header changes) (Err FullPairs)
    too-many many = answers-full limits.pairs limits.blocks blocks header changes prev.0 fault prev.1.live carried carried-is.0 carried-is.1 many

    -- no further load is counted, and a fault is
    pub take-loads : (ended : Ended) (new : N) → store.loads new ≡ store.loads later.nodes → CountsLoads ended (store.loads tries.nodes) (store.loads new) (loads limits.blocks blocks (carry_out header changes))
    take-loads ended new same = loads-on store count_of limits.blocks blocks (shard_of tries forks flat limits) header changes prev.0 is fault prev.1.live within ended later.nodes new (left-here later done ledgers left) same

    pub take-faults : (ended : Ended) (new : N) → store.faults new ≡ faults_after ended (store.faults later.nodes) → store.faults new ≡ faults_after ended (store.faults tries.nodes)
    take-faults ended new counted = counted ∙ ap (faults_after ended) (carry-faults later done ledgers left)

    module _ (bounds : AreLimits limits) (few : carried.pairs ≤ limits.pairs) where
      take-offered : IsOffered blocks limits.blocks header prev.0 changes carried
      take-offered = offered store count_of blocks tries forks flat limits is header fine bounds prev.0 prev.1.live changes within carried carried-is.0 few

      pub take-requires : (forks : ForkState) × (most : ℕ) × (of : Header) × (state : State) × (changes : Changes) × (header.id ≡ of.id) × AreTriesOf (store.texts later.nodes) (count_of later.nodes) (ledgers_of later.ledgers.entries) forks × IsOffered forks most of state changes carried
      take-requires = (blocks, limits.blocks, header, prev.0, changes, refl, of-later, take-offered)

      module _ (last : Tries N) where
        abbrev pub TakeAnswers : Result Digest ApplyError → Type 0
        TakeAnswers result = (forks : ForkState) (most : ℕ) (of : Header) (state : State) (changes : Changes) → AreTriesOf (store.texts later.nodes) (count_of later.nodes) (ledgers_of later.ledgers.entries) forks → IsOffered forks most of state changes carried → AnswersTake forks state changes result

        -- ---- it is not taken in

        module _ (error : ApplyError) (said : TakeAnswers (Err error)) where
          pub take-answer : AnswersApply (block_end limits.pairs limits.blocks blocks header changes) (Err error)
          take-answer = answers-take limits.pairs limits.blocks blocks header changes prev.0 fault prev.1.live carried carried-is.0 carried-is.1 few error (said blocks limits.blocks header prev.0 changes of-later take-offered)

          pub take-left :
              (error ≡ NoMemory → (forks : ForkState) → AreTriesOf (store.texts later.nodes) (count_of later.nodes) (ledgers_of later.ledgers.entries) forks → AreTriesOf (store.texts last.nodes) (count_of last.nodes) (ledgers_of last.ledgers.entries) forks)
              → ((forks : ForkState) (most : ℕ) (of : Header) (state : State) (changes : Changes) → AreTriesOf (store.texts later.nodes) (count_of later.nodes) (ledgers_of later.ledgers.entries) forks → IsOffered forks most of state changes carried → IsAmidBlock (store.texts last.nodes) (count_of last.nodes) forks state changes)
              → (next : ForkTree) (now : FlatState) → next.tree ≡ forks.tree → (IsFlatOf blocks flat → IsFlatOf blocks now) → LeavesApply {X = Applied} store count_of blocks header changes (Err error) (shard_of last next now limits)
          take-left memory amid next now tree kept =
              leaves-error store count_of blocks header changes prev.0 prev.1.live (shard_of last next now limits) error
              (λ short. stays-with store count_of blocks tries forks flat limits is last next now tree kept (memory short blocks of-later))
              (amid blocks limits.blocks header prev.0 changes of-later take-offered)
              (said blocks limits.blocks header prev.0 changes of-later take-offered)

        -- ---- it is taken in

        module _ (root : Digest) (said : TakeAnswers (Ok root)) where
          pub taken-answer : root ≡ carried.change.root → AnswersApply (block_end limits.pairs limits.blocks blocks header changes) (Ok (record { root = root }))
          taken-answer same =
              answers-ok limits.pairs limits.blocks blocks header changes prev.0 fault prev.1.live carried carried-is.0 carried-is.1 few
              (said blocks limits.blocks header prev.0 changes of-later take-offered) (record { root = root }) (ap (λ (d : Digest). d.0) same)

        pub taken-left :
            ((forks : ForkState) (most : ℕ) (of : Header) (state : State) (changes : Changes) → header.id ≡ of.id → AreTriesOf (store.texts later.nodes) (count_of later.nodes) (ledgers_of later.ledgers.entries) forks → IsOffered forks most of state changes carried → AreTriesOf (store.texts last.nodes) (count_of last.nodes) (ledgers_of last.ledgers.entries) (with_block forks of changes))
            → (next grew : ForkTree) (now more : FlatState) → next.tree ≡ forks.tree → (IsFlatOf blocks flat → IsFlatOf blocks now) → grew.tree ≡ grown next.tree header
            → ((most : ℕ) (blocks : ForkState) (of : Header) → of.id ≡ header.id → block_fault most (tree_of_blocks blocks) of ≡ None → IsFlatOf blocks now → IsFlatOf (with_block blocks of changes) more)
            → IsShardOf store count_of (with_block blocks header changes) (shard_of last grew more limits)
        taken-left ok next grew now more tree kept grows adds =
            stands-with store count_of blocks tries forks flat limits is header fine prev.0 prev.1.live changes (subst (λ n. n ≤ limits.pairs) carried-is.0.pairs few) last grew more
            (ok blocks limits.blocks header prev.0 changes refl of-later take-offered)
            (grows ∙ ap (λ t. grown t header) tree) (adds limits.blocks blocks header refl fault (kept is.flat))

-- ---- what is added to the tree and to flat storage

module _ {N : Type 0} (store : Store N) (count_of : N → List ℕ → ℕ) (blocks : ForkState) (tries : Tries N) (forks : ForkTree) (flat : FlatState) (limits : Limits) (is : IsShardOf store count_of blocks (shard_of tries forks flat limits)) (header : Header) (fine : block_fault limits.blocks forks.tree header ≡ None) (now : FlatState) (deltas : now.deltas ≡ flat.deltas) where
  pub add-few : AreLimits limits → length (entries now.deltas) < most_blocks
  add-few bounds = subst (λ (m : Deltas). length (entries m) < most_blocks) (sym deltas) (together-few limits.blocks forks.tree header flat (one-shard store count_of blocks tries forks flat limits is) fine bounds.few_blocks)

  pub add-new : get now.deltas header.id ≡ None
  add-new = ap (λ (m : Deltas). get m header.id) deltas ∙ together-new limits.blocks forks.tree header flat (one-shard store count_of blocks tries forks flat limits is) fine
