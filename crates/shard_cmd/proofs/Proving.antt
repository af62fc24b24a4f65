-- A recording that is made at a live block of a shard.
use Rattle.std.proofs.Common.{◌≡◌, ℕ, ◌<◌, ◌≤◌, cond, IfSome, List, [], ◌++◌, length, append-nil, Option, None, Some, Result, Ok, Err, OnOk, inl, inr, refl, sym, ap, ap₂, subst, ◌∙◌}
use Rattle.std.specs.Prelude.{IfErr}
use Rattle.std.specs.Option.{IsSomeAnd}
use Rattle.std.specs.FinMap.{empty, get-insert, insert, len}
use Rattle.std.specs.Cmp.Lexicographic.{nat_list_cmp_total}
use Rattle.std.proofs.lemmas.Bool.{le-ltb, lt-ltb}
use Rattle.sha2.specs.Sha256.{sha256}
use Rattle.base_core.specs.Faults as ended
use Rattle.base_core.specs.Faults.{Ended, risen, faults_after}
use Rattle.base_core.specs.declared.fault.Fault.{Fault}
use Rattle.base_core.specs.declared.hash.Digest.{Digest}
use Rattle.trie_model.specs.State.{State}
use Rattle.trie_model.specs.Root as trie
use Rattle.trie_model.specs.Root.{Holds, Table, zero_digest}
use Rattle.batch_model.specs.Changes.{Changes}
use Rattle.change_model.specs.Ledger.{made_texts}
use Rattle.fork_model.specs.States.{ForkState, first_fork, state_at}
use Rattle.partial_model.specs.Recording.{Recording, spelled_recording}
use Rattle.count_model.specs.Clashes.{made_clash}
use Rattle.count_model.specs.Loads.{record_texts, recording_loads, loads}
use Rattle.count_model.proofs.Clashing.{within-none}
use Rattle.recording_model.specs.Replays.{replay_visits}
use Rattle.recording_model.specs.Recorded.{recorded_texts}
use Rattle.recording_model.proofs.Costs.{recording-loaded}
use Rattle.text_store.specs.Store.{Store}
use Rattle.text_store.specs.Leaves.{CountsLoads, Leaves}
use Rattle.text_store.specs.Counting.{IsStored}
use Rattle.script_model.specs.Words.{Op}
use Rattle.shard_core.specs.Shards.{IsShardOf, ShardState}
use Rattle.shard_core.specs.Loaded.{AreAlike, shard_store}
use Rattle.shard_core.proofs.OfBlocks.{holds-there, state-there_is}
use Rattle.shard_core.proofs.Reading.{tries-alike}
use Rattle.shard_core.proofs.Started.{tries-start}
use Rattle.shard_core.specs.Ledgers.{LedgerState}
use Rattle.partial_state.specs.Operations.{Operations}
use Rattle.partial_state.specs.Proofs.{IsProofOf}
use Rattle.partial_state.specs.Recordings.{recording_of}
use Rattle.partial_state.specs.Recorders.{untold}
use Rattle.partial_state.specs.Replays.{AreApart, AreWithin}
use Rattle.partial_state.specs.declared.proof.Proof.{Proof}
use Rattle.output_model.specs.Ends.{Output, RunLimits, clash_at, not_live}
use Rattle.output_model.specs.Output.{live_behind, prove_outcome, without_blocks}
use Rattle.output_model.specs.Scripts.{script_outcome}
use Rattle.output_model.specs.Prove.{changes_in, full_changes, prove_request, prove_script, reads_in, recorded, recorded_unless}
use Rattle.shard_cmd.specs.declared.status.Status.{Status}
use Rattle.shard_cmd.specs.declared.status.Status.TheVariants as status
use Rattle.shard_cmd.specs.Ends.{EndsAs, FinishesAs, ending_of, run_ended}
use Rattle.shard_cmd.specs.HandedBack.{EndsRun, HoldsBlocks, IfSettled}
use Rattle.shard_cmd.specs.Histories.{IsGoing}
use Rattle.shard_cmd.specs.Proving.{Holding, PutsUnless, Records}
use Rattle.shard_cmd.specs.Requests.{Answered, request_script}
use Rattle.shard_cmd.specs.declared.request.Request.TheVariants.{Prove}
use Rattle.shard_cmd.proofs.Answered.{loads_end, no_loads}
use Rattle.shard_cmd.proofs.Runs.{each_input, has_ending}

-- ---- what was put

pub puts_unless : (before after bytes : List ℕ) (given result : Status) (put : Result Unit Fault) → OnOk put (after ≡ before ++ bytes) → OnOk put (result ≡ given) → IfErr put (λ _. result ≡ status.NoMemory) → PutsUnless before after bytes given result
puts_unless before after bytes given result (Ok _) e same short = inl (same, e)
puts_unless before after bytes given result (Err fault) e same short = inr short

-- ---- at a state's root

-- no two of the texts share a digest
pub apart-none : (state : State) (changes : Changes) → AreApart (made_texts state changes) → made_clash state changes ≡ None
apart-none state changes apart = (within-none sha256 (made_texts state changes)).1 (λ digest is. is.different (apart is.one is.other is.first is.second (is.is_of_one ∙ sym is.is_of_other)))

-- the recording is the one that is defined
pub recorded-is : (state : State) (root : Digest) (ops : Operations) (table : Table) (digests : List (List ℕ)) (proof : Proof) → Holding table root.0 state → IsProofOf root ops table digests proof → proof.state.texts ≡ recorded_texts state ops.reads ops.batch.changes
    → recording_of proof ≡ recorded state ops.reads ops.batch.changes
recorded-is state root ops table digests proof held is exact = rw (is.root_is, is.ops_are, exact, held.root_is) refl

module _ {N : Type 0} (store : Store N) (state : State) (ops : Operations) (old new : ShardState N) (before after : List ℕ) (root : List ℕ) (held : Holding (store.texts old.nodes) root state) (within : AreWithin ops.reads ops.batch.changes) where
  abbrev Left : Ended → Type 0
  Left ended = Leaves (untold (shard_store store)) old new (replay_visits (store.texts old.nodes) root ops.reads ops.batch.changes).digests ended

  abbrev Told : Status → Type 0
  Told given = Records store state ops.reads ops.batch.changes old new before after given

  abbrev cost : ℕ
  cost = recording_loads state ops.reads ops.batch.changes

  visited : length (replay_visits (store.texts old.nodes) root ops.reads ops.batch.changes).digests ≡ cost
  visited =
      ap (λ (r : List ℕ). length (replay_visits (store.texts old.nodes) r ops.reads ops.batch.changes).digests) held.root_is
      ∙ recording-loaded (store.texts old.nodes) state held.holds held.is ops.batch.changes ops.reads within.reads_are within.changes_are

  counted : (ended : Ended) → Left ended → CountsLoads ended (store.loads old.nodes) (store.loads new.nodes) cost
  counted ended left = subst (λ n. CountsLoads ended (store.loads old.nodes) (store.loads new.nodes) n) visited left.loaded

  -- it was carried out, and there was no memory for what is written
  short-told : AreAlike store old new → store.loads new.nodes ≡ risen (store.loads old.nodes) cost → store.faults new.nodes ≡ store.faults old.nodes → Told status.NoMemory
  short-told alike loaded same = record { answers = tt; alike = alike; counted = loads_end (run_ended status.NoMemory) (store.loads old.nodes) (store.loads new.nodes) cost loaded; faults = same }

  pub made-told : Left ended.done → (proof : Proof) (given : Status) → made_clash state ops.batch.changes ≡ None → recording_of proof ≡ recorded state ops.reads ops.batch.changes → PutsUnless before after (spelled_recording (recording_of proof)) status.Done given → Told given
  made-told left proof given clear is (inr short) = rw short (short-told left.same (counted ended.done left) left.counted)
  made-told left proof given clear is (inl put) = rw put.0 (record {
    answers = rw clear (refl, put.1 ∙ ap (λ (r : Recording). before ++ spelled_recording r) is);
    alike = left.same;
    counted = counted ended.done left;
    faults = left.counted;
  })

  pub clash-told : Left ended.refused → (digest : List ℕ) (given : Status) → made_clash state ops.batch.changes ≡ Some digest → PutsUnless before after (clash_at digest).bytes status.Clash given → Told given
  clash-told left digest given clashed (inr short) = rw short (short-told left.same (counted ended.refused left) left.counted)
  clash-told left digest given clashed (inl put) = rw put.0 (record { answers = rw clashed (refl, put.1); alike = left.same; counted = counted ended.refused left; faults = left.counted })

  -- the store or memory failed
  abbrev whole : Output
  whole = recorded_unless (made_clash state ops.batch.changes) (recorded state ops.reads ops.batch.changes)

  pub fault-told : Left ended.failed → after ≡ before → Told status.StoreFault
  fault-told left unput = record { answers = record { part = []; rest = whole.bytes; put = unput ∙ sym (append-nil before); parts = refl }; alike = left.same; counted = counted ended.failed left; faults = left.counted }

  pub memory-told : Left ended.short_of_memory → Told status.NoMemory
  memory-told left = record { answers = tt; alike = left.same; counted = counted ended.short_of_memory left; faults = left.counted }

-- ---- at a block

-- the state of a live block, whose texts are all there
pub held-at : {N : Type 0} (store : Store N) (count_of : N → List ℕ → ℕ) (forks : ForkState) (shard : ShardState N) (id root : List ℕ) → IsShardOf store count_of forks shard → IsSomeAnd (state_at forks id) (λ state. root ≡ trie.root state)
    → (state : State) × (state_at forks id ≡ Some state) × Holding (store.texts shard.nodes) root state
held-at store count_of forks shard id root is live = by_state (state_at forks id) refl live
  where
    by_state : (o : Option State) → state_at forks id ≡ o → IsSomeAnd o (λ state. root ≡ trie.root state) → (state : State) × (state_at forks id ≡ Some state) × Holding (store.texts shard.nodes) root state
    by_state None at h = absurd h
    by_state (Some state) at h = (state, at, record { holds = holds-there store count_of forks shard is id state at; is = state-there_is store count_of forks shard is id state at; root_is = h })

module _ {N : Type 0} (store : Store N) (count_of : N → List ℕ → ℕ) (alike_texts : (a b : N) → store.alike a b → store.texts a ≡ store.texts b) (alike_counts : (a b : N) → store.alike a b → (digest : List ℕ) → count_of a digest ≡ count_of b digest) (limits : RunLimits) (forks : ForkState) where
  -- a shard that is alike is one of the same blocks
  pub going-alike : (old new : ShardState N) → AreAlike store old new → IsGoing store count_of limits old forks → IsGoing store count_of limits new forks
  going-alike old new alike is = subst (λ (s : ShardState N). IsGoing store count_of limits s forks) (sym alike.rest) (record {
    of = record {
      tries = tries-alike _ _ _ _ _ _ (alike_texts old.nodes new.nodes alike.nodes) (alike_counts old.nodes new.nodes alike.nodes) is.of.tries;
      tree = is.of.tree;
      flat = is.of.flat;
      few = is.of.few;
    };
    going = is.going;
    limits_are = is.limits_are;
  })

  module _ (id : List ℕ) (reads : List (List ℕ)) (changes : Changes) where
    pub recorded-live : (old new : ShardState N) (before after : List ℕ) (given : Status) (state : State) → state_at forks id ≡ Some state → IsGoing store count_of limits old forks → Records store state reads changes old new before after given
        → Answered store count_of limits forks (prove_request id reads changes forks) (record_texts id reads changes) old new before after given
    unfolding prove_request loads
    recorded-live old new before after given state at is told = record {
      answers = rw at told.answers;
      shard = going-alike old new told.alike is;
      counted = rw at told.counted;
      faults = told.faults;
    }

    pub recorded-refused : (shard : ShardState N) (before after : List ℕ) (given : Status) → state_at forks id ≡ None → IsGoing store count_of limits shard forks → PutsUnless before after not_live.bytes status.Refused given
        → Answered store count_of limits forks (prove_request id reads changes forks) (record_texts id reads changes) shard shard before after given
    unfolding prove_request loads
    recorded-refused shard before after given none is (inl put) = rw put.0 (record { answers = rw none (refl, put.1); shard = is; counted = rw none (no_loads (run_ended status.Refused) (store.loads shard.nodes) (store.loads shard.nodes) refl); faults = refl })
    recorded-refused shard before after given none is (inr short) = rw short (record { answers = tt; shard = is; counted = rw none (no_loads (run_ended status.NoMemory) (store.loads shard.nodes) (store.loads shard.nodes) refl); faults = refl })

-- ---- behind the words

-- what operations read and change has the outcome of the operations
pub gathered-outcome : (limits : RunLimits) (id : Digest) (list : List Op) (ops : Operations) (input : List ℕ) → ops.reads ≡ reads_in list → ops.batch.changes ≡ changes_in list → len (changes_in list) ≤ limits.changes
    → live_behind (script_outcome (request_script limits (Prove id ops)) input) ≡ prove_outcome limits id.0 list input
gathered-outcome limits id list ops input reads changes few =
    ap₂ (λ (r : List (List ℕ)) (c : Changes). live_behind (script_outcome (prove_script limits id.0 r c) input)) reads changes
    ∙ ap (λ b. cond b (without_blocks full_changes) (live_behind (script_outcome (prove_script limits id.0 (reads_in list) (changes_in list)) input))) (sym (le-ltb limits.changes (len (changes_in list)) few))

full-outcome : (limits : RunLimits) (id : Digest) (list : List Op) (input : List ℕ) → limits.changes < len (changes_in list) → prove_outcome limits id.0 list input ≡ without_blocks full_changes
full-outcome limits id list input many = ap (λ b. cond b (without_blocks full_changes) (live_behind (script_outcome (prove_script limits id.0 (reads_in list) (changes_in list)) input))) (lt-ltb limits.changes (len (changes_in list)) many)

-- a store without texts holds those of the first head
module _ (texts : Table) (count_of : List ℕ → ℕ) (none : texts ≡ empty) (stored : IsStored texts count_of) where
  abbrev first_ledger : LedgerState
  first_ledger = record { root = zero_digest; pairs = 0; gains = []; losses = [] }

  holds-start : HoldsBlocks texts count_of first_fork
  holds-start =
      let tries = tries-start texts count_of (insert empty zero_digest first_ledger) none stored first_ledger (get-insert nat_list_cmp_total empty zero_digest first_ledger zero_digest) refl refl in
      record { held = tries.held; counts = tries.counts }

-- more keys are changed than may be
pub full-ends : {N : Type 0} (store : Store N) (count_of : N → List ℕ → ℕ) (limits : RunLimits) (id : Digest) (list : List Op) (nodes : N) (left before after : Option (List ℕ)) (given : Status) (faults now : ℕ) → store.texts nodes ≡ empty → IsStored (store.texts nodes) (count_of nodes) → limits.changes < len (changes_in list)
    → IfSome before (λ b. EndsAs full_changes (ending_of given) b after) → FinishesAs status.Refused given faults now → IfSome left (λ input. EndsRun store count_of (prove_outcome limits id.0 list input) nodes nodes before after given)
full-ends store count_of limits id list nodes left before after given faults now none stored many written finished =
    each_input left (λ input. EndsRun store count_of (prove_outcome limits id.0 list input) nodes nodes before after given)
    (λ input. rw (full-outcome limits id list input many) (record {
      output = written;
      ending = has_ending full_changes status.Refused given faults now refl finished;
      counts = settled finished;
      loads = no_loads (run_ended given) (store.loads nodes) (store.loads nodes) refl;
    }))
  where
    settled : FinishesAs status.Refused given faults now → IfSettled given (HoldsBlocks (store.texts nodes) (count_of nodes) first_fork)
    settled (inl e) = rw e.0 (holds-start (store.texts nodes) (count_of nodes) none stored)
    settled (inr e) = rw e.0 tt
