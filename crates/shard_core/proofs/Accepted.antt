-- A block without a fault, from its batch to what comes of it.
use Rattle.std.proofs.Common.{◌≡◌, ℕ, ◌≤◌, ◌<◌, nat_lt, Bool, true, false, cond, List, length, Option, None, Some, Ok, Err, is_some, refl, sym, ap₂, subst, ◌∙◌, arith}
use Rattle.std.proofs.Math.Nat.{le_refl}
use Rattle.std.specs.Option.{IsSomeAnd}
use Rattle.std.specs.FinMap.{len}
use Rattle.trie_model.specs.State.{State}
use Rattle.trie_model.specs.Root as trie
use Rattle.batch_model.specs.Changes.{AreChanges, Changes, after}
use Rattle.change_model.specs.Visits.{batch_visits}
use Rattle.fork_model.specs.Trees.{Header, block_fault, block_of}
use Rattle.fork_model.specs.States.{ForkState, state_at, tree_of_blocks}
use Rattle.fork_model.proofs.Faults.{accepted}
use Rattle.count_model.specs.BlockEnds.{BlockEnd, block_end, end_beside, end_by_texts, end_over}
use Rattle.count_model.specs.BlockEnds.BlockEnd.{too_many}
use Rattle.count_model.specs.Clashes.{live_clash, made_clash}
use Rattle.count_model.specs.Loads.{block_loads, carry_out, loads}
use Rattle.count_model.proofs.Ends.{end-accepted, end-full, end-live, end-made}
use Rattle.count_model.proofs.Held.{holds-live, state-is}
use Rattle.count_model.proofs.Loaded.{batch-loaded}
use Rattle.base_core.specs.Faults.{Ended, done, refused, failed, short_of_memory, risen}
use Rattle.base_core.specs.declared.hash.Digest.{Digest}
use Rattle.text_store.specs.Leaves.{CountsLoads, Leaves}
use Rattle.text_store.specs.Store.{Store}
use Rattle.shard_core.specs.Answers.{AnswersCarry, AnswersTake, IsCarried}
use Rattle.shard_core.specs.Shards.{IsShardOf, ShardState}
use Rattle.shard_core.specs.ShardAnswers.{AnswersApply, IsFaultless}
use Rattle.shard_core.specs.declared.block.Applied.{Applied}
use Rattle.shard_core.specs.declared.errors.ApplyError.{ApplyError}
use Rattle.shard_core.specs.declared.errors.ApplyError.TheVariants.{Stopped, Known, NoPrev, Height, FullBlocks, FullPairs, Clash, StoreFault, NoMemory}
use Rattle.shard_core.specs.declared.tries.Carried.{Carried}
use Rattle.shard_core.proofs.Behind.{live-state}

-- ---- its prev

-- the prev of a block without a fault is live
pub prev-live : (most : ℕ) (blocks : ForkState) (header : Header) → block_fault most (tree_of_blocks blocks) header ≡ None → (state : State) × (state_at blocks header.prev ≡ Some state)
prev-live most blocks header fine = live-state blocks header.prev (some (block_of (tree_of_blocks blocks).blocks header.prev) (accepted most (tree_of_blocks blocks) header fine).higher)
  where
    some : (o : Option Header) → IsSomeAnd o (λ prev. prev.height < header.height) → is_some o ≡ true
    some None h = absurd h
    some (Some b) h = refl

-- ---- what comes of it

module _ (most_pairs most_blocks : ℕ) (blocks : ForkState) (header : Header) (changes : Changes) (state : State) (fine : block_fault most_blocks (tree_of_blocks blocks) header ≡ None) (at : state_at blocks header.prev ≡ Some state) where
  abbrev ending : BlockEnd
  ending = block_end most_pairs most_blocks blocks header changes

  pub faultless-end : IsFaultless ending
  unfolding block_end
  faultless-end = subst IsFaultless (sym (ap₂ (end_over most_pairs blocks changes) fine at)) (by_made (made_clash state changes))
    where
      by_live : (o : Option (List ℕ)) → IsFaultless (end_beside o (after state changes))
      by_live None = tt
      by_live (Some digest) = tt

      by_pairs : (b : Bool) → IsFaultless (cond b too_many (end_beside (live_clash blocks state changes) (after state changes)))
      by_pairs true = tt
      by_pairs false = by_live (live_clash blocks state changes)

      by_made : (o : Option (List ℕ)) → IsFaultless (end_by_texts most_pairs o (live_clash blocks state changes) (after state changes))
      by_made (Some digest) = tt
      by_made None = by_pairs (nat_lt most_pairs (len (after state changes)))

  pub answers-carry : (error : ApplyError) → AnswersCarry state changes (Err error) → AnswersApply ending (Err error)
  answers-carry Stopped h = absurd h
  answers-carry Known h = absurd h
  answers-carry NoPrev h = absurd h
  answers-carry Height h = absurd h
  answers-carry FullBlocks h = absurd h
  answers-carry FullPairs h = absurd h
  answers-carry (Clash digest) h = end-made most_pairs most_blocks blocks header changes state fine at digest.0 h
  answers-carry StoreFault h = faultless-end
  answers-carry NoMemory h = faultless-end

  module _ (carried : Carried) (is : IsCarried state changes carried) (alone : made_clash state changes ≡ None) where
    pub answers-full : most_pairs < carried.pairs → AnswersApply ending (Err FullPairs)
    answers-full many = end-full most_pairs most_blocks blocks header changes state fine at alone (subst (λ n. most_pairs < n) is.pairs many)

    module _ (few : carried.pairs ≤ most_pairs) where
      enough : len (after state changes) ≤ most_pairs
      enough = subst (λ n. n ≤ most_pairs) is.pairs few

      pub answers-take : (error : ApplyError) → AnswersTake blocks state changes {X = Digest} (Err error) → AnswersApply ending (Err error)
      answers-take Stopped h = absurd h
      answers-take Known h = absurd h
      answers-take NoPrev h = absurd h
      answers-take Height h = absurd h
      answers-take FullBlocks h = absurd h
      answers-take FullPairs h = absurd h
      answers-take (Clash digest) h = end-live most_pairs most_blocks blocks header changes state fine at alone enough digest.0 h
      answers-take StoreFault h = faultless-end
      answers-take NoMemory h = faultless-end

      pub answers-ok : live_clash blocks state changes ≡ None → (applied : Applied) → applied.root.0 ≡ carried.change.root.0 → AnswersApply ending (Ok applied)
      answers-ok none applied same = (after state changes, end-accepted most_pairs most_blocks blocks header changes state fine at alone enough none, same ∙ is.change.root)

-- ---- loads

no_fall : (before n : ℕ) → before ≤ risen before n
no_fall before n = omega arith

-- after so many loads, a call that ends otherwise has counted no more
pub loads-end : (ended : Ended) (before after n : ℕ) → after ≡ risen before n → CountsLoads ended before after n
loads-end done before after n e = e
loads-end refused before after n e = e
loads-end failed before after n e = (subst (λ m. before ≤ m) (sym e) (no_fall before n), subst (λ m. m ≤ risen before n) (sym e) (le_refl (risen before n)))
loads-end short_of_memory before after n e = (subst (λ m. before ≤ m) (sym e) (no_fall before n), subst (λ m. m ≤ risen before n) (sym e) (le_refl (risen before n)))

module _ {N : Type 0} (store : Store N) (count_of : N → List ℕ → ℕ) (most : ℕ) (blocks : ForkState) (shard : ShardState N) (header : Header) (changes : Changes) (state : State) (is : IsShardOf store count_of blocks shard) (fine : block_fault most (tree_of_blocks blocks) header ≡ None) (at : state_at blocks header.prev ≡ Some state) (within : AreChanges changes) where
  abbrev visits : ℕ
  visits = length (batch_visits (store.texts shard.nodes) (trie.root state) changes).digests

  pub loads-are : loads most blocks (carry_out header changes) ≡ visits
  unfolding loads
  loads-are =
      ap₂ (λ o p. block_loads o p changes) fine at
      ∙ sym (batch-loaded (store.texts shard.nodes) state (holds-live (store.texts shard.nodes) blocks is.tries.blocks is.tries.held header.prev state at) (state-is blocks header.prev state is.tries.states at) changes within)

  pub loads-left : (ended : Ended) (new : N) → Leaves store shard.nodes new (batch_visits (store.texts shard.nodes) (trie.root state) changes).digests ended → CountsLoads ended (store.loads shard.nodes) (store.loads new) (loads most blocks (carry_out header changes))
  loads-left ended new left = subst (CountsLoads ended (store.loads shard.nodes) (store.loads new)) (sym loads-are) left.loaded

  pub loads-on : (ended : Ended) (mid new : N) → Leaves store shard.nodes mid (batch_visits (store.texts shard.nodes) (trie.root state) changes).digests done → store.loads new ≡ store.loads mid → CountsLoads ended (store.loads shard.nodes) (store.loads new) (loads most blocks (carry_out header changes))
  loads-on ended mid new left same = subst (CountsLoads ended (store.loads shard.nodes) (store.loads new)) (sym loads-are) (loads-end ended (store.loads shard.nodes) (store.loads new) visits (same ∙ left.loaded))
