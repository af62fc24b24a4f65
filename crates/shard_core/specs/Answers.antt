-- What calls on the tries of live blocks answer.
use Rattle.std.specs.Prelude.{◌≡◌, ◌≤◌, ◌^◌, ℕ, List, None, Some, Result, Ok, Err, ⊤}
use Rattle.std.specs.FinMap.{len}
use Rattle.trie_model.specs.State.{State}
use Rattle.trie_model.specs.Root.{Table}
use Rattle.batch_model.specs.Changes.{AreChanges, Changes, after}
use Rattle.fork_model.specs.Trees.{Header, block_fault}
use Rattle.fork_model.specs.States.{ForkState, state_at, tree_of_blocks}
use Rattle.count_model.specs.Clashes.{live_clash, made_clash}
use Rattle.base_core.specs.Bounds.{most_blocks}
use Rattle.base_core.specs.Faults.{Ended, done, refused, failed, short_of_memory}
use Rattle.trie_update.specs.Updates.{IsChangeAfter}
use Rattle.shard_core.specs.KeptTries.{AreTriesOf}
use Rattle.shard_core.specs.Ledgers.{Ledgers}
use Rattle.shard_core.specs.declared.errors.ApplyError.{ApplyError}
use Rattle.shard_core.specs.declared.errors.ApplyError.TheVariants.{Stopped, Known, NoPrev, Height, FullBlocks, FullPairs, Clash, StoreFault, NoMemory}
use Rattle.shard_core.specs.declared.tries.Carried.{Carried}

-- how a call ended, by its error
abbrev pub by_error : ApplyError → Ended
by_error Stopped = refused
by_error Known = refused
by_error NoPrev = refused
by_error Height = refused
by_error FullBlocks = refused
by_error FullPairs = refused
by_error (Clash digest) = refused
by_error StoreFault = failed
by_error NoMemory = short_of_memory

abbrev pub apply_ended : {X : Type 0} → Result X ApplyError → Ended
apply_ended (Ok applied) = done
apply_ended (Err error) = by_error error

-- ---- a batch is carried out over a live block

-- a live block with its state, over which a batch is carried out
pub record IsPrev (texts : Table) (count_of : List ℕ → ℕ) (ledgers : Ledgers) (forks : ForkState) (id : List ℕ) (state : State) : Type 0 where
  pub tries : AreTriesOf texts count_of ledgers forks
  pub live : state_at forks id ≡ Some state

-- what the batch makes of the state, and how many pairs that has then
pub record IsCarried (state : State) (changes : Changes) (carried : Carried) : Type 0 where
  pub change : IsChangeAfter state changes carried.change
  pub pairs : carried.pairs ≡ len (after state changes)

abbrev pub AnswersCarry : State → Changes → Result Carried ApplyError → Type 0
AnswersCarry state changes (Ok carried) = IsCarried state changes carried × (made_clash state changes ≡ None)
AnswersCarry state changes (Err Stopped) = ⊥
AnswersCarry state changes (Err Known) = ⊥
AnswersCarry state changes (Err NoPrev) = ⊥
AnswersCarry state changes (Err Height) = ⊥
AnswersCarry state changes (Err FullBlocks) = ⊥
AnswersCarry state changes (Err FullPairs) = ⊥
AnswersCarry state changes (Err (Clash digest)) = made_clash state changes ≡ Some digest.0
AnswersCarry state changes (Err StoreFault) = ⊤
AnswersCarry state changes (Err NoMemory) = ⊤

-- ---- its texts are added

-- a block without a fault, and its batch as it was carried out
pub record IsOffered (forks : ForkState) (most : ℕ) (header : Header) (state : State) (changes : Changes) (carried : Carried) : Type 0 where
  pub live : state_at forks header.prev ≡ Some state
  pub faultless : block_fault most (tree_of_blocks forks) header ≡ None
  pub bounded : most ≤ most_blocks
  pub within : AreChanges changes
  pub is : IsCarried state changes carried
  pub few : carried.pairs ≤ 2 ^ 32

abbrev pub AnswersTake : ForkState → State → Changes → {X : Type 0} → Result X ApplyError → Type 0
AnswersTake forks state changes (Ok taken) = live_clash forks state changes ≡ None
AnswersTake forks state changes (Err Stopped) = ⊥
AnswersTake forks state changes (Err Known) = ⊥
AnswersTake forks state changes (Err NoPrev) = ⊥
AnswersTake forks state changes (Err Height) = ⊥
AnswersTake forks state changes (Err FullBlocks) = ⊥
AnswersTake forks state changes (Err FullPairs) = ⊥
AnswersTake forks state changes (Err (Clash digest)) = live_clash forks state changes ≡ Some digest.0
AnswersTake forks state changes (Err StoreFault) = ⊤
AnswersTake forks state changes (Err NoMemory) = ⊤
