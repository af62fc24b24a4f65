-- What calls of a shard answer, and what they leave, by the definitions over blocks with states.
use Rattle.std.specs.Prelude.{◌≡◌, ℕ, List, Bool, true, false, Result, Ok, Err, IfSome, ⊤, length}
use Rattle.trie_model.specs.State.{State}
use Rattle.trie_model.specs.Root as trie
use Rattle.batch_model.specs.Changes.{Changes}
use Rattle.fork_model.specs.Trees.{Header, dropped, known, is_live, no_prev, not_higher, full, passed}
use Rattle.fork_model.specs.States.{ForkState, head_moved, state_at, tree_of_blocks, with_block}
use Rattle.count_model.specs.BlockEnds.{BlockEnd, faulty, clashing, too_many, accepted}
use Rattle.count_model.specs.Loads.{Access, loads}
use Rattle.text_store.specs.Leaves.{CountsLoads}
use Rattle.text_store.specs.Store.{Store}
use Rattle.base_core.specs.Faults.{Ended, done, refused, failed, short_of_memory, faults_after}
use Rattle.shard_core.specs.KeptTries.{IsAmidBlock, IsAmidMove}
use Rattle.shard_core.specs.Shards.{IsShardOf, ShardState}
use Rattle.shard_core.specs.declared.block.Applied.{Applied}
use Rattle.shard_core.specs.declared.block.Block as block
use Rattle.shard_core.specs.declared.block.HeadMoved.{HeadMoved}
use Rattle.shard_core.specs.declared.errors.ApplyError.{ApplyError}
use Rattle.shard_core.specs.declared.errors.ApplyError.TheVariants.{Stopped, Known, NoPrev, Height, FullBlocks, FullPairs, Clash, StoreFault, NoMemory}
use Rattle.shard_core.specs.declared.errors.HeadError.{HeadError}
use Rattle.shard_core.specs.declared.errors.HeadError.TheVariants as head
use Rattle.shard_core.specs.declared.errors.TrieError.{TrieError}
use Rattle.shard_core.specs.declared.errors.TrieError.TheVariants as trie_error

abbrev pub header_of : block.Block → Header
header_of b = record { id = b.id.0; prev = b.prev.0; height = b.height }

-- ---- a block is offered

-- a call that was cut short: no further one is answered
abbrev pub cuts_short : {X : Type 0} → Result X ApplyError → Bool
cuts_short (Ok applied) = false
cuts_short (Err Stopped) = false
cuts_short (Err Known) = false
cuts_short (Err NoPrev) = false
cuts_short (Err Height) = false
cuts_short (Err FullBlocks) = false
cuts_short (Err FullPairs) = false
cuts_short (Err (Clash digest)) = true
cuts_short (Err StoreFault) = true
cuts_short (Err NoMemory) = false

-- the block has no fault
abbrev pub IsFaultless : BlockEnd → Type 0
IsFaultless (faulty fault) = ⊥
IsFaultless (clashing digest) = ⊤
IsFaultless too_many = ⊤
IsFaultless (accepted state) = ⊤

-- Of a shard that is not stopped. The store and want of memory come in only where the block has no fault.
abbrev pub AnswersApply : BlockEnd → Result Applied ApplyError → Type 0
AnswersApply end (Ok applied) = (state : State) × (end ≡ accepted state) × (applied.root.0 ≡ trie.root state)
AnswersApply end (Err Stopped) = ⊥
AnswersApply end (Err Known) = end ≡ faulty known
AnswersApply end (Err NoPrev) = end ≡ faulty no_prev
AnswersApply end (Err Height) = end ≡ faulty not_higher
AnswersApply end (Err FullBlocks) = end ≡ faulty full
AnswersApply end (Err FullPairs) = end ≡ too_many
AnswersApply end (Err (Clash digest)) = end ≡ clashing digest.0
AnswersApply end (Err StoreFault) = IsFaultless end
AnswersApply end (Err NoMemory) = IsFaultless end

-- what is left of the shard: with the block, as it was, or cut short in the middle of it
abbrev pub LeavesApply : {N X : Type 0} → Store N → (N → List ℕ → ℕ) → ForkState → Header → Changes → Result X ApplyError → ShardState N → Type 0
LeavesApply store count_of blocks header changes (Ok applied) shard = IsShardOf store count_of (with_block blocks header changes) shard
LeavesApply store count_of blocks header changes (Err Stopped) shard = IsShardOf store count_of blocks shard
LeavesApply store count_of blocks header changes (Err Known) shard = IsShardOf store count_of blocks shard
LeavesApply store count_of blocks header changes (Err NoPrev) shard = IsShardOf store count_of blocks shard
LeavesApply store count_of blocks header changes (Err Height) shard = IsShardOf store count_of blocks shard
LeavesApply store count_of blocks header changes (Err FullBlocks) shard = IsShardOf store count_of blocks shard
LeavesApply store count_of blocks header changes (Err FullPairs) shard = IsShardOf store count_of blocks shard
LeavesApply store count_of blocks header changes (Err (Clash digest)) shard = IfSome (state_at blocks header.prev) (λ prev. IsAmidBlock (store.texts shard.nodes) (count_of shard.nodes) blocks prev changes)
LeavesApply store count_of blocks header changes (Err StoreFault) shard = IfSome (state_at blocks header.prev) (λ prev. IsAmidBlock (store.texts shard.nodes) (count_of shard.nodes) blocks prev changes)
LeavesApply store count_of blocks header changes (Err NoMemory) shard = IsShardOf store count_of blocks shard

-- ---- the head moves

abbrev pub head_ended : {X : Type 0} → Result X HeadError → Ended
head_ended (Ok moved) = done
head_ended (Err head.Stopped) = refused
head_ended (Err head.NotLive) = refused
head_ended (Err head.StoreFault) = failed
head_ended (Err head.NoMemory) = short_of_memory

abbrev pub cuts_move_short : {X : Type 0} → Result X HeadError → Bool
cuts_move_short (Ok moved) = false
cuts_move_short (Err head.Stopped) = false
cuts_move_short (Err head.NotLive) = false
cuts_move_short (Err head.StoreFault) = true
cuts_move_short (Err head.NoMemory) = false

abbrev pub AnswersMove : ForkState → (id : List ℕ) → Result HeadMoved HeadError → Type 0
AnswersMove blocks id (Ok moved) = (is_live (tree_of_blocks blocks) id ≡ true) × (moved.passed ≡ length (passed (tree_of_blocks blocks) id)) × (moved.dropped ≡ length (dropped (tree_of_blocks blocks) id))
AnswersMove blocks id (Err head.Stopped) = ⊥
AnswersMove blocks id (Err head.NotLive) = is_live (tree_of_blocks blocks) id ≡ false
AnswersMove blocks id (Err head.StoreFault) = is_live (tree_of_blocks blocks) id ≡ true
AnswersMove blocks id (Err head.NoMemory) = is_live (tree_of_blocks blocks) id ≡ true

abbrev pub LeavesMove : {N X : Type 0} → Store N → (N → List ℕ → ℕ) → ForkState → (id : List ℕ) → Result X HeadError → ShardState N → Type 0
LeavesMove store count_of blocks id (Ok moved) shard = IsShardOf store count_of (head_moved blocks id) shard
LeavesMove store count_of blocks id (Err head.Stopped) shard = IsShardOf store count_of blocks shard
LeavesMove store count_of blocks id (Err head.NotLive) shard = IsShardOf store count_of blocks shard
LeavesMove store count_of blocks id (Err head.StoreFault) shard = IsAmidMove (store.texts shard.nodes) (count_of shard.nodes) blocks id
LeavesMove store count_of blocks id (Err head.NoMemory) shard = IsShardOf store count_of blocks shard

-- ---- a live block's trie is read

abbrev pub trie_ended : {X : Type 0} → Result X TrieError → Ended
trie_ended (Ok found) = done
trie_ended (Err trie_error.Stopped) = refused
trie_ended (Err trie_error.NotLive) = refused
trie_ended (Err trie_error.StoreFault) = failed

-- Whatever it answers, nothing but the store is changed, and that holds the same texts with the same counts. The loads are those that are defined, and a fault of the store is counted exactly where it is told.
pub record LeavesReading {N X : Type 0} (store : Store N) (count_of : N → List ℕ → ℕ) (access : Access) (old new : ShardState N) (result : Result X TrieError) : Type 0 where
  pub state : (blocks : ForkState) → IsShardOf store count_of blocks old → IsShardOf store count_of blocks new
  pub rest : new ≡ record old { nodes = new.nodes }
  pub going : new.stopped ≡ old.stopped
  pub limits : new.limits ≡ old.limits
  pub alike : store.alike old.nodes new.nodes
  pub loads : (blocks : ForkState) → old.stopped ≡ false → IsShardOf store count_of blocks old → CountsLoads (trie_ended result) (store.loads old.nodes) (store.loads new.nodes) (loads old.limits.blocks blocks access)
  pub faults : store.faults new.nodes ≡ faults_after (trie_ended result) (store.faults old.nodes)
  pub asleep : old.stopped ≡ true → new ≡ old
