-- A recording that is made of notes.
use Rattle.std.proofs.Common.{◌≡◌, ℕ, Result, Ok, Err, IfOk, IfErr, false, List, None, Some, sym, ap, subst, ◌∙◌}
use Rattle.std.specs.Prelude.{Contains}
use Rattle.std.specs.FinSet as set
use Rattle.trie_model.specs.State.{State, IsState}
use Rattle.trie_model.specs.Root as trie
use Rattle.trie_model.specs.Root.{Table, Holds, NoClash, texts_of}
use Rattle.batch_model.specs.Changes.{Changes}
use Rattle.change_model.specs.Ledger.{made_texts}
use Rattle.recording_model.specs.Agreeing.{Agrees}
use Rattle.recording_model.specs.Recorded.{recorded_texts}
use Rattle.recording_model.specs.Replays.{replay_visits}
use Rattle.recording_model.proofs.Complete.{holds-passes}
use Rattle.partial_model.specs.Texts.{texts_in}
use Rattle.base_core.specs.declared.hash.Digest.{Digest}
use Rattle.text_store.specs.Leaves.{with_all}
use Rattle.text_store.specs.PartialStates.{PartialState, unread}
use Rattle.partial_state.specs.declared.noting.Notes.{Notes}
use Rattle.partial_state.specs.declared.proof.Proof.{Proof}
use Rattle.partial_state.specs.declared.prove_error.ProveError.{ProveError}
use Rattle.partial_state.specs.declared.prove_error.ProveError.TheVariants.{Missing, Bad, Usage, Clash, Fault, NoMemory}
use Rattle.partial_state.specs.Operations.{Operations}
use Rattle.partial_state.specs.Replays.{AreApart, AreWithin, IsStopped}
use Rattle.partial_state.specs.NotedTexts.{digests_of}
use Rattle.partial_state.specs.Recorders.{AreTexts, noted_digests}
use Rattle.partial_state.specs.Proofs.{IsNoTest, IsProofOf, ProvesState}
use Rattle.partial_state.proofs.Notes.{found-in}
use Rattle.partial_state.proofs.Exactly.{noted-exactly}

-- what is ensured of a proof that is made of notes
abbrev Made : Digest → Operations → Notes → Proof → Type 0
Made root ops notes proof = (proof.root ≡ root) × (proof.ops ≡ ops) × (proof.state ≡ unread (texts_in notes.texts)) × (notes.short ≡ false)

pub proved-recording : (root : Digest) (ops : Operations) (table : Table) (digests : List (List ℕ)) (notes : Notes) (r : Result Proof ProveError) → AreTexts table notes.texts → (notes.short ≡ false → noted_digests notes ≡ with_all set.empty digests) → IfOk r (Made root ops notes) → IfOk r (IsProofOf root ops table digests)
proved-recording root ops table digests notes (Ok proof) held noted made =
    let texts : proof.state.texts ≡ texts_in notes.texts = ap (λ (s : PartialState). s.texts) made.2 in
    record {
      root_is = made.0;
      ops_are = made.1;
      unread_is = made.2 ∙ ap unread (sym texts);
      held = λ text i. held.held text (found-in notes.texts text (subst (λ (ts : List (List ℕ)). Contains ts text) texts i));
      exactly = ap digests_of texts ∙ noted made.3;
    }
proved-recording root ops table digests notes (Err error) held noted made = tt

pub exactly-made : (root : Digest) (ops : Operations) (table : Table) (state : State) (notes : Notes) (r : Result Proof ProveError) → IsState state → AreWithin ops.reads ops.batch.changes → NoClash (texts_of state) → Agrees table state → (replay_visits table (trie.root state) ops.reads ops.batch.changes).refusal ≡ None
    → AreTexts table notes.texts → (notes.short ≡ false → noted_digests notes ≡ with_all set.empty (replay_visits table (trie.root state) ops.reads ops.batch.changes).digests) → IfOk r (Made root ops notes) → IfOk r (λ proof. proof.state.texts ≡ recorded_texts state ops.reads ops.batch.changes)
exactly-made root ops table state notes (Ok proof) is within free agrees passed held noted made =
    ap (λ (s : PartialState). s.texts) made.2 ∙ noted-exactly table state ops.reads ops.batch.changes is within free agrees passed notes.texts held (noted made.3)
exactly-made root ops table state notes (Err error) is within free agrees passed held noted made = tt

-- ---- over a state

-- notes are made into a recording, or there is no memory
pub proves-made : (state : State) (changes : Changes) (r : Result Proof ProveError) → AreApart (made_texts state changes) → IfErr r (λ error. error ≡ NoMemory) → ProvesState state changes r
proves-made state changes (Ok proof) apart only = apart
proves-made state changes (Err (Missing digest)) apart only = tt
proves-made state changes (Err (Bad digest)) apart only = tt
proves-made state changes (Err (Usage digest)) apart only = tt
proves-made state changes (Err (Clash digest one other)) apart only = absurd cc
proves-made state changes (Err Fault) apart only = tt
proves-made state changes (Err NoMemory) apart only = tt

pub untested-made : (r : Result Proof ProveError) → IfErr r (λ error. error ≡ NoMemory) → IsNoTest r
untested-made (Ok proof) only = tt
untested-made (Err (Missing digest)) only = absurd cc
untested-made (Err (Bad digest)) only = absurd cc
untested-made (Err (Usage digest)) only = absurd cc
untested-made (Err (Clash digest one other)) only = tt
untested-made (Err Fault) only = tt
untested-made (Err NoMemory) only = tt

none_some : {X : Type 0} (x : X) → None ≡ Some x → ⊥
none_some x e = cc

-- no test fails over a table that holds the state
pub untested-stopped : (table : Table) (state : State) (root : List ℕ) (reads : List (List ℕ)) (changes : Changes) (error : ProveError) → Holds table state → IsState state → AreWithin reads changes → root ≡ trie.root state → IsStopped (replay_visits table root reads changes) error → IsNoTest (Err error)
untested-stopped table state root reads changes error holds is within at stopped = go error stopped
  where
    passed : (replay_visits table root reads changes).refusal ≡ None
    passed = ap (λ (r : List ℕ). (replay_visits table r reads changes).refusal) at ∙ holds-passes table state reads changes holds is within.reads_are within.changes_are

    go : (error : ProveError) → IsStopped (replay_visits table root reads changes) error → IsNoTest (Err error)
    go (Missing digest) e = none_some _ (sym passed ∙ e)
    go (Bad digest) e = none_some _ (sym passed ∙ e)
    go (Usage digest) e = none_some _ (sym passed ∙ e)
    go (Clash digest one other) e = tt
    go Fault e = tt
    go NoMemory e = tt
