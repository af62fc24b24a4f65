-- What is answered where reads and a batch are carried out over some texts, and where a recording is replayed.
use Rattle.std.specs.Prelude.{◌≡◌, ℕ, List, map, Option, None, Some, Result, Ok, Err, Contains, ⊤}
use Rattle.std.specs.List.{AllByRecursion}
use Rattle.std.specs.FinMap.{get}
use Rattle.sha2.specs.Sha256.{sha256}
use Rattle.byte_model.specs.Nibbles.{AreBytes}
use Rattle.trie_model.specs.State.{State}
use Rattle.trie_model.specs.Root as trie
use Rattle.visit_model.specs.Visits as looking
use Rattle.batch_model.specs.Changes.{Changes, AreChanges, after}
use Rattle.change_model.specs.Ledger.{made_texts}
use Rattle.change_model.specs.Visits as changing
use Rattle.recording_model.specs.Replays as replay
use Rattle.recording_model.specs.Replays.{Visits, value_among, replay_visits, first_spare}
use Rattle.base_core.specs.Faults.{Ended, done, refused, failed, short_of_memory}
use Rattle.text_store.specs.PartialStates.{table_of}
use Rattle.trie_read.specs.declared.errors.ReadError.{ReadError}
use Rattle.trie_read.specs.declared.errors.ReadError.TheVariants as read
use Rattle.trie_update.specs.declared.errors.UpdateError.{UpdateError}
use Rattle.trie_update.specs.declared.errors.UpdateError.TheVariants as update
use Rattle.trie_update.specs.Updates.{Clashes, IsLeastClash}
use Rattle.base_core.specs.declared.hash.Digest.{Digest}
use Rattle.partial_state.specs.declared.proof.Proof.{Proof}
use Rattle.partial_state.specs.declared.prove_error.ProveError.{ProveError}
use Rattle.partial_state.specs.declared.prove_error.ProveError.TheVariants.{Missing, Bad, Usage, Clash, Fault, NoMemory}
use Rattle.partial_state.specs.declared.replaying.Replayed.{Replayed}
use Rattle.partial_state.specs.declared.replaying.ReplayError.{ReplayError}
use Rattle.partial_state.specs.declared.replaying.ReplayError.TheVariants as replayed

-- ---- errors

-- of a read and of a batch, as those of both
abbrev pub of_read : ReadError → ProveError
of_read (read.Missing digest) = Missing digest
of_read (read.Bad digest) = Bad digest
of_read read.Fault = Fault

abbrev pub of_update : UpdateError → ProveError
of_update (update.Missing digest) = Missing digest
of_update (update.Bad digest) = Bad digest
of_update (update.Usage digest) = Usage digest
of_update (update.Clash digest one other) = Clash digest one other
of_update update.Fault = Fault
of_update update.NoMemory = NoMemory

-- how a call ended, by its answer
abbrev pub by_prove_error : ProveError → Ended
by_prove_error (Missing digest) = refused
by_prove_error (Bad digest) = refused
by_prove_error (Usage digest) = refused
by_prove_error (Clash digest one other) = refused
by_prove_error Fault = failed
by_prove_error NoMemory = short_of_memory

abbrev pub prove_ended : {X : Type 0} → Result X ProveError → Ended
prove_ended (Ok found) = done
prove_ended (Err error) = by_prove_error error

-- ---- by the visits

-- one read
abbrev pub AnswersRead : looking.Visits → Result (Option (List ℕ)) ProveError → Type 0
AnswersRead visits (Ok value) = (visits.refusal ≡ None) × (value_among visits.values ≡ value)
AnswersRead visits (Err (Missing named)) = visits.refusal ≡ Some (looking.missing named.0)
AnswersRead visits (Err (Bad named)) = visits.refusal ≡ Some (looking.bad named.0)
AnswersRead visits (Err (Usage named)) = ⊥
AnswersRead visits (Err (Clash named one other)) = ⊥
AnswersRead visits (Err Fault) = ⊤
AnswersRead visits (Err NoMemory) = ⊤

-- one read whose answer nobody wants
abbrev pub PassesRead : {X : Type 0} → looking.Visits → Result X ProveError → Type 0
PassesRead visits (Ok passed) = visits.refusal ≡ None
PassesRead visits (Err error) = AnswersRead visits (Err error)

-- why reads and a batch were not carried out: the test that failed; texts clash behind all visits
abbrev pub IsStopped : Visits → ProveError → Type 0
IsStopped visits (Missing named) = visits.refusal ≡ Some (replay.missing named.0)
IsStopped visits (Bad named) = visits.refusal ≡ Some (replay.bad named.0)
IsStopped visits (Usage named) = visits.refusal ≡ Some (replay.usage named.0)
IsStopped visits (Clash named one other) = (visits.refusal ≡ None) × Clashes named one other
IsStopped visits Fault = ⊤
IsStopped visits NoMemory = ⊤

-- reads alone, among whose refusals there is no clash
abbrev pub AnswersReads : {X : Type 0} → (X → List (Option (List ℕ))) → Visits → Result X ProveError → Type 0
AnswersReads view visits (Ok answers) = (visits.refusal ≡ None) × (view answers ≡ visits.answers)
AnswersReads view visits (Err (Clash named one other)) = ⊥
AnswersReads view visits (Err error) = IsStopped visits error

-- a batch alone
abbrev pub AnswersCarried : changing.Visits → Result Digest ProveError → Type 0
AnswersCarried visits (Ok root) = visits.refusal ≡ None
AnswersCarried visits (Err (Missing named)) = visits.refusal ≡ Some (changing.no_text named.0)
AnswersCarried visits (Err (Bad named)) = visits.refusal ≡ Some (changing.no_node named.0)
AnswersCarried visits (Err (Usage named)) = visits.refusal ≡ Some (changing.no_usage named.0)
AnswersCarried visits (Err (Clash named one other)) = (visits.refusal ≡ None) × Clashes named one other
AnswersCarried visits (Err Fault) = ⊤
AnswersCarried visits (Err NoMemory) = ⊤

-- reads and a batch
abbrev pub AnswersBoth : Visits → Result Replayed ProveError → Type 0
AnswersBoth visits (Ok replayed) = (visits.refusal ≡ None) × (replayed.answers ≡ visits.answers)
AnswersBoth visits (Err error) = IsStopped visits error

-- ---- a recording that is replayed

-- what its reads and its batch visit over its texts
abbrev pub visits_of : Proof → Visits
visits_of proof = replay_visits (table_of proof.state.texts) proof.root.0 proof.ops.reads proof.ops.batch.changes

-- Nothing is refused where each visit passed its test and each text was visited. Else the test that failed is told, then texts that clash, and then the first text that nothing visits.
abbrev pub AnswersReplay : Proof → Result Replayed ReplayError → Type 0
AnswersReplay proof (Ok replayed) =
    ((visits_of proof).refusal ≡ None) × (replayed.answers ≡ (visits_of proof).answers) × (first_spare (visits_of proof).digests proof.state.texts ≡ None)
AnswersReplay proof (Err (replayed.Missing named)) = IsStopped (visits_of proof) (Missing named)
AnswersReplay proof (Err (replayed.Bad named)) = IsStopped (visits_of proof) (Bad named)
AnswersReplay proof (Err (replayed.Usage named)) = IsStopped (visits_of proof) (Usage named)
AnswersReplay proof (Err (replayed.Clash named one other)) = IsStopped (visits_of proof) (Clash named one other)
AnswersReplay proof (Err (replayed.Spare place)) = ((visits_of proof).refusal ≡ None) × (first_spare (visits_of proof).digests proof.state.texts ≡ Some place)
AnswersReplay proof (Err replayed.NoMemory) = ⊤

-- The recording is the same but for the marks on its texts and the count of loads.
pub record StaysProof (old new : Proof) : Type 0 where
  pub root : new.root ≡ old.root
  pub ops : new.ops ≡ old.ops
  pub texts : new.state.texts ≡ old.state.texts

-- ---- over the touched places of a state

-- no two of these texts share a digest
abbrev pub AreApart : List (List ℕ) → Type 0
AreApart texts = (a b : List ℕ) → Contains texts a → Contains texts b → sha256 a ≡ sha256 b → a ≡ b

-- The root is that of the state with the changes laid over, and no two of the texts that the batch makes share a digest. Else the least such clash is told.
abbrev pub MeetsRoot : State → Changes → Result Digest ProveError → Type 0
MeetsRoot state changes (Ok root) = (root.0 ≡ trie.root (after state changes)) × AreApart (made_texts state changes)
MeetsRoot state changes (Err (Clash named one other)) = IsLeastClash (made_texts state changes) named one other
MeetsRoot state changes (Err error) = ⊤

abbrev pub MeetsState : State → Changes → Result Replayed ProveError → Type 0
MeetsState state changes (Ok replayed) = (replayed.root.0 ≡ trie.root (after state changes)) × AreApart (made_texts state changes)
MeetsState state changes (Err (Clash named one other)) = IsLeastClash (made_texts state changes) named one other
MeetsState state changes (Err error) = ⊤

abbrev pub ReplaysState : State → Changes → Result Replayed ReplayError → Type 0
ReplaysState state changes (Ok replayed) = (replayed.root.0 ≡ trie.root (after state changes)) × AreApart (made_texts state changes)
ReplaysState state changes (Err (replayed.Clash named one other)) = IsLeastClash (made_texts state changes) named one other
ReplaysState state changes (Err error) = ⊤

-- Carried out, where no two of these texts share a digest, and else the least such clash is told, but for want of memory.
abbrev pub OkUnlessClash : List (List ℕ) → Result Replayed ReplayError → Type 0
OkUnlessClash made (Ok replayed) = AreApart made
OkUnlessClash made (Err (replayed.Missing named)) = ⊥
OkUnlessClash made (Err (replayed.Bad named)) = ⊥
OkUnlessClash made (Err (replayed.Usage named)) = ⊥
OkUnlessClash made (Err (replayed.Clash named one other)) = IsLeastClash made named one other
OkUnlessClash made (Err (replayed.Spare place)) = ⊥
OkUnlessClash made (Err replayed.NoMemory) = ⊤

-- What comes of a recording at the root of a state: the state's value of each read key, in order, and the root of the state with the changes laid over.
pub record IsReplayOf (state : State) (reads : List (List ℕ)) (changes : Changes) (replayed : Replayed) : Type 0 where
  pub answers : replayed.answers ≡ map (get state) reads
  pub root : replayed.root.0 ≡ trie.root (after state changes)

-- the keys are byte strings, and the changes keep to their limits
pub record AreWithin (reads : List (List ℕ)) (changes : Changes) : Type 0 where
  pub reads_are : AllByRecursion AreBytes reads
  pub changes_are : AreChanges changes
