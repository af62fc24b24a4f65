-- What is answered where the recording of a state is replayed.
use Rattle.std.proofs.Common.{◌≡◌, ℕ, List, [], None, Some, Result, Ok, Err, sym, ap, ◌∙◌, subst}
use Rattle.std.specs.FinMap.{get}
use Rattle.sha2.specs.Sha256.{sha256}
use Rattle.trie_model.specs.State.{State, IsState}
use Rattle.trie_model.specs.Root as trie
use Rattle.trie_model.specs.Root.{NoClash, texts_of}
use Rattle.trie_model.proofs.Members.{IsIn}
use Rattle.batch_model.specs.Changes.{Changes}
use Rattle.change_model.specs.Ledger.{made_texts}
use Rattle.change_model.specs.Places.{touched_places}
use Rattle.change_model.specs.Tables.{HoldsPlaces}
use Rattle.recording_model.specs.Agreeing.{Agrees}
use Rattle.recording_model.specs.Recorded.{touched_texts, recorded_texts}
use Rattle.recording_model.specs.Replays.{replay_visits, first_spare}
use Rattle.recording_model.proofs.Complete.{recorded-there, recorded-apart, recorded-among, complete-places, complete-passes, complete-used}
use Rattle.text_store.specs.PartialStates.{table_of}
use Rattle.text_store.proofs.PartialTables.{table-found}
use Rattle.partial_state.specs.declared.proof.Proof.{Proof}
use Rattle.partial_state.specs.declared.replaying.Replayed.{Replayed}
use Rattle.partial_state.specs.declared.replaying.ReplayError.{ReplayError}
use Rattle.partial_state.specs.declared.replaying.ReplayError.TheVariants.{Missing, Bad, Usage, Clash, Spare, NoMemory}
use Rattle.partial_state.specs.Replays.{visits_of, AnswersReplay, ReplaysState, OkUnlessClash, AreWithin}
use Rattle.partial_state.proofs.Strangers.{stranger-agrees}

module _ (proof : Proof) (state : State) (within : AreWithin proof.ops.reads proof.ops.batch.changes) (is : IsState state) (apart : NoClash (texts_of state)) (root : proof.root.0 ≡ trie.root state) (same : proof.state.texts ≡ recorded_texts state proof.ops.reads proof.ops.batch.changes) where
  abbrev reads : List (List ℕ)
  reads = proof.ops.reads

  abbrev changes : Changes
  changes = proof.ops.batch.changes

  abbrev texts : List (List ℕ)
  texts = recorded_texts state reads changes

  agrees : Agrees (table_of texts) state
  agrees = stranger-agrees state texts (recorded-among state reads changes apart)

  there : (text : List ℕ) → IsIn (touched_texts state reads changes) text → get (table_of texts) (sha256 text) ≡ Some text
  there = recorded-there (table_of texts) state reads changes (λ text i. table-found texts text (recorded-apart state reads changes apart) i)

  passed : (visits_of proof).refusal ≡ None
  passed =
      ap (λ (ts : List (List ℕ)). (replay_visits (table_of ts) proof.root.0 reads changes).refusal) same
      ∙ ap (λ (r : List ℕ). (replay_visits (table_of texts) r reads changes).refusal) root
      ∙ complete-passes (table_of texts) state reads changes is within.reads_are within.changes_are apart agrees there

  used : first_spare (visits_of proof).digests proof.state.texts ≡ None
  used =
      ap (λ (ts : List (List ℕ)). first_spare (replay_visits (table_of ts) proof.root.0 reads changes).digests ts) same
      ∙ ap (λ (r : List ℕ). first_spare (replay_visits (table_of texts) r reads changes).digests texts) root
      ∙ complete-used (table_of texts) state reads changes is within.reads_are within.changes_are apart agrees there

  places : HoldsPlaces (table_of proof.state.texts) state (touched_places state [] changes)
  places =
      subst (λ (ts : List (List ℕ)). HoldsPlaces (table_of ts) state (touched_places state [] changes)) (sym same)
      (complete-places (table_of texts) state reads changes is within.reads_are within.changes_are apart agrees there)

  none_some : {X : Type 0} (x : X) → None ≡ Some x → ⊥
  none_some x e = cc

  pub replays-recording : (result : Result Replayed ReplayError) → AnswersReplay proof result → ((m : State) → IsState m → HoldsPlaces (table_of proof.state.texts) m (touched_places m [] changes) → proof.root.0 ≡ trie.root m → ReplaysState m changes result) → OkUnlessClash (made_texts state changes) result
  replays-recording (Ok replayed) answer meets = (meets state is places root).1
  replays-recording (Err (Missing named)) answer meets = none_some _ (sym passed ∙ answer)
  replays-recording (Err (Bad named)) answer meets = none_some _ (sym passed ∙ answer)
  replays-recording (Err (Usage named)) answer meets = none_some _ (sym passed ∙ answer)
  replays-recording (Err (Clash named one other)) answer meets = meets state is places root
  replays-recording (Err (Spare place)) answer meets = none_some place (sym used ∙ answer.1)
  replays-recording (Err NoMemory) answer meets = tt
