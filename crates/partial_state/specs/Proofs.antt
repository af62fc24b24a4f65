-- What is answered where a recording is made from a store.
use Rattle.std.specs.Prelude.{◌≡◌, ℕ, List, Contains, None, Some, Result, Ok, Err, ⊤}
use Rattle.std.specs.FinMap.{get}
use Rattle.std.specs.FinSet as set
use Rattle.sha2.specs.Sha256.{sha256}
use Rattle.trie_model.specs.State.{State}
use Rattle.trie_model.specs.Root.{Table}
use Rattle.batch_model.specs.Changes.{Changes}
use Rattle.change_model.specs.Ledger.{made_texts}
use Rattle.recording_model.specs.Replays.{Visits}
use Rattle.base_core.specs.declared.hash.Digest.{Digest}
use Rattle.text_store.specs.Leaves.{with_all}
use Rattle.trie_update.specs.Updates.{IsLeastClash}
use Rattle.text_store.specs.PartialStates.{unread}
use Rattle.partial_state.specs.declared.proof.Proof.{Proof}
use Rattle.partial_state.specs.declared.prove_error.ProveError.{ProveError}
use Rattle.partial_state.specs.declared.prove_error.ProveError.TheVariants.{Missing, Bad, Usage, Clash, Fault, NoMemory}
use Rattle.partial_state.specs.Operations.{Operations}
use Rattle.partial_state.specs.Replays.{AreApart, IsStopped}
use Rattle.partial_state.specs.NotedTexts.{digests_of}

-- No test fails where reads and a batch are carried out, or a recording is made of them. Else the test that failed is told, or texts of the batch clash.
abbrev pub AnswersProve : {X : Type 0} → Visits → Result X ProveError → Type 0
AnswersProve visits (Ok made) = visits.refusal ≡ None
AnswersProve visits (Err error) = IsStopped visits error

-- No two of the texts that the batch makes of this state share a digest. Else the least such clash is told.
abbrev pub ProvesState : {X : Type 0} → State → Changes → Result X ProveError → Type 0
ProvesState state changes (Ok made) = AreApart (made_texts state changes)
ProvesState state changes (Err (Clash named one other)) = IsLeastClash (made_texts state changes) named one other
ProvesState state changes (Err error) = ⊤

-- No text that was visited failed a test.
abbrev pub IsNoTest : Result Proof ProveError → Type 0
IsNoTest (Ok proof) = ⊤
IsNoTest (Err (Missing named)) = ⊥
IsNoTest (Err (Bad named)) = ⊥
IsNoTest (Err (Usage named)) = ⊥
IsNoTest (Err (Clash named one other)) = ⊤
IsNoTest (Err Fault) = ⊤
IsNoTest (Err NoMemory) = ⊤

-- The recording has this root and these reads and changes. No text of it is marked. Each is the table's text of its digest, and their digests are exactly those that were visited.
pub record IsProofOf (root : Digest) (ops : Operations) (table : Table) (digests : List (List ℕ)) (proof : Proof) : Type 0 where
  pub root_is : proof.root ≡ root
  pub ops_are : proof.ops ≡ ops
  pub unread_is : proof.state ≡ unread proof.state.texts
  pub held : (text : List ℕ) → Contains proof.state.texts text → get table (sha256 text) ≡ Some text
  pub exactly : digests_of proof.state.texts ≡ with_all set.empty digests
