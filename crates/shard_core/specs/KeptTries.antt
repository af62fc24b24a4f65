-- What a store and ledgers have of live blocks with their states, and what a store has that is left in the middle of a block or of a move.
use Rattle.std.specs.Prelude.{◌≡◌, ℕ, ◌+◌, ◌≤◌, false, List, Contains, Option, None, Some, ⊤}
use Rattle.std.specs.Option.{IsSomeAnd}
use Rattle.std.specs.Str.{bytes_eq}
use Rattle.std.specs.FinMap.{get, len}
use Rattle.sha2.specs.Sha256.{sha256}
use Rattle.trie_model.specs.State.{State}
use Rattle.trie_model.specs.Root as trie
use Rattle.trie_model.specs.Root.{Table}
use Rattle.batch_model.specs.Changes.{Changes}
use Rattle.change_model.specs.Ledger.{gain}
use Rattle.fork_model.specs.States.{ForkState, IsForkState, head_moved, state_at}
use Rattle.count_model.specs.Counts.{digest_count, fall, of_digest, rise}
use Rattle.count_model.specs.Entries.{times_of}
use Rattle.count_model.specs.Tables.{AreStates, HoldsCounted, live_texts}
use Rattle.shard_core.specs.Ledgers.{LedgerState, Ledgers}

-- ---- between calls

-- What the ledger of a live block tells. Of the head it tells no gains and losses, since nothing is to be released for it any more.
pub record IsLedgerOf (forks : ForkState) (id : List ℕ) (state : State) (ledger : LedgerState) : Type 0 where
  pub root : ledger.root ≡ trie.root state
  pub pairs : ledger.pairs ≡ len state
  pub gains : bytes_eq id forks.head ≡ false → (digest : List ℕ) → times_of ledger.gains digest ≡ rise (of_digest digest) forks id
  pub losses : bytes_eq id forks.head ≡ false → (digest : List ℕ) → times_of ledger.losses digest ≡ fall (of_digest digest) forks id

-- A live block has a ledger. What is kept of another id is of no account.
abbrev pub MatchesLedger : ForkState → List ℕ → Option State → Option LedgerState → Type 0
MatchesLedger forks id None ledger = ⊤
MatchesLedger forks id (Some state) ledger = IsSomeAnd ledger (IsLedgerOf forks id state)

-- The texts are those of the live blocks, each digest is counted as often as the definition has it, and there is a ledger of each live block.
pub record AreTriesOf (texts : Table) (count_of : List ℕ → ℕ) (ledgers : Ledgers) (forks : ForkState) : Type 0 where
  pub blocks : IsForkState forks
  pub states : AreStates forks
  pub held : HoldsCounted texts forks
  pub counts : (digest : List ℕ) → count_of digest ≡ digest_count forks digest
  pub each : (id : List ℕ) → MatchesLedger forks id (state_at forks id) (get ledgers id)

-- ---- where a call was cut short

-- A block's texts were to be added over the state of its prev. All texts of live blocks are held. No digest is counted less often than over these, or more often than with the gains of the block.
pub record IsAmidBlock (texts : Table) (count_of : List ℕ → ℕ) (forks : ForkState) (prev : State) (changes : Changes) : Type 0 where
  pub held : (t : List ℕ) → Contains (live_texts forks) t → get texts (sha256 t) ≡ Some t
  pub least : (digest : List ℕ) → digest_count forks digest ≤ count_of digest
  pub most : (digest : List ℕ) → count_of digest ≤ digest_count forks digest + gain prev changes digest

-- What a move of the head takes away was to be released. All texts of the blocks are held that are live behind the move, and none that was not before it, and the counts stand between those before and those behind.
pub record IsAmidMove (texts : Table) (count_of : List ℕ → ℕ) (forks : ForkState) (id : List ℕ) : Type 0 where
  pub held : (t : List ℕ) → Contains (live_texts (head_moved forks id)) t → get texts (sha256 t) ≡ Some t
  pub only : (digest t : List ℕ) → get texts digest ≡ Some t → Contains (live_texts forks) t
  pub least : (digest : List ℕ) → digest_count (head_moved forks id) digest ≤ count_of digest
  pub most : (digest : List ℕ) → count_of digest ≤ digest_count forks digest
