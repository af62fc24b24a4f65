-- The last request behind a history, over a shard.
use Rattle.std.specs.Prelude.{◌≡◌, ◌≤◌, ℕ, true, List, ◌++◌, length, Result, Ok, Err, ⊤}
use Rattle.base_core.specs.Faults.{faults_after}
use Rattle.fork_model.specs.States.{ForkState}
use Rattle.trie_model.specs.State.{longest_key}
use Rattle.count_model.specs.Loads.{Access, look_up, record_texts, loads}
use Rattle.text_store.specs.Store.{Store}
use Rattle.text_store.specs.Leaves.{CountsLoads}
use Rattle.shard_core.specs.Shards.{ShardState}
use Rattle.output_model.specs.Ends.{Output, RunLimits, done, refused, clash}
use Rattle.output_model.specs.Scripts.{Script}
use Rattle.output_model.specs.Readings.{flat_line, trie_line}
use Rattle.output_model.specs.Histories.{History, history_script}
use Rattle.output_model.specs.Get.{get_request}
use Rattle.output_model.specs.Prove.{prove_request}
use Rattle.shard_cmd.specs.declared.request.Request.{Request}
use Rattle.shard_cmd.specs.declared.request.Request.TheVariants.{Get, Prove}
use Rattle.shard_cmd.specs.declared.history.Halt.{Halt}
use Rattle.shard_cmd.specs.declared.history.Halt.TheVariants as halt
use Rattle.shard_cmd.specs.declared.status.Status.{Status}
use Rattle.shard_cmd.specs.declared.status.Status.TheVariants as status
use Rattle.shard_cmd.specs.Ends.{run_ended, store_ended}
use Rattle.shard_cmd.specs.Histories.{IsGoing, step_ended}

-- how a run ends that was answered, unless it halted
abbrev pub answered_status : Result Unit Halt → Status → Status
answered_status (Ok answered) given = given
answered_status (Err halt.Syntax) given = status.NoMemory
answered_status (Err (halt.Clash digest)) given = status.NoMemory
answered_status (Err halt.StoreFault) given = status.StoreFault
answered_status (Err halt.NoMemory) given = status.NoMemory

-- these bytes were put behind the others, and with more of them they are all
pub record IsPartOf (before after bytes : List ℕ) : Type 0 where
  pub part : List ℕ
  pub rest : List ℕ
  pub put : after ≡ before ++ part
  pub parts : bytes ≡ part ++ rest

-- both lines stand behind the others; or the store failed behind the first; or memory failed
abbrev pub PutsBoth : (before after bytes : List ℕ) → Result Unit Halt → Type 0
PutsBoth before after bytes (Ok answered) = after ≡ before ++ bytes
PutsBoth before after bytes (Err halt.Syntax) = ⊥
PutsBoth before after bytes (Err (halt.Clash digest)) = ⊥
PutsBoth before after bytes (Err halt.StoreFault) = IsPartOf before after bytes
PutsBoth before after bytes (Err halt.NoMemory) = ⊤

pub record ReadsBoth {N : Type 0} (store : Store N) (count_of : N → List ℕ → ℕ) (limits : RunLimits) (forks : ForkState) (id key : List ℕ) (old new : ShardState N) (before after : List ℕ) (result : Result Unit Halt) : Type 0 where
  pub puts : PutsBoth before after (flat_line forks id key ++ trie_line forks id key) result
  pub shard : IsGoing store count_of limits new forks
  pub counted : CountsLoads (step_ended result) (store.loads old.nodes) (store.loads new.nodes) (loads limits.blocks forks (look_up id key))
  pub faults : store.faults new.nodes ≡ faults_after (step_ended result) (store.faults old.nodes)

-- what a request is answered with, by the status
abbrev pub AnswersAs : Output → (before after : List ℕ) → Status → Type 0
AnswersAs output before after status.Done = (output.ending ≡ done) × (after ≡ before ++ output.bytes)
AnswersAs output before after status.NoMemory = ⊤
AnswersAs output before after status.Usage = ⊥
AnswersAs output before after status.Syntax = ⊥
AnswersAs output before after status.Refused = (output.ending ≡ refused) × (after ≡ before ++ output.bytes)
AnswersAs output before after status.ReadFault = ⊥
AnswersAs output before after status.WriteFault = ⊥
AnswersAs output before after status.StoreFault = IsPartOf before after output.bytes
AnswersAs output before after status.Clash = (output.ending ≡ clash) × (after ≡ before ++ output.bytes)

-- A request is answered with an output, unless memory or the store failed, and leaves a shard of the same blocks, with these loads.
pub record Answered {N : Type 0} (store : Store N) (count_of : N → List ℕ → ℕ) (limits : RunLimits) (forks : ForkState) (output : Output) (access : Access) (old new : ShardState N) (before after : List ℕ) (result : Status) : Type 0 where
  pub answers : AnswersAs output before after result
  pub shard : IsGoing store count_of limits new forks
  pub counted : CountsLoads (run_ended result) (store.loads old.nodes) (store.loads new.nodes) (loads limits.blocks forks access)
  pub faults : store.faults new.nodes ≡ faults_after (store_ended result) (store.faults old.nodes)

-- `get`
abbrev pub Gets : {N : Type 0} (store : Store N) (count_of : N → List ℕ → ℕ) (limits : RunLimits) (forks : ForkState) (id key : List ℕ) (old new : ShardState N) (before after : List ℕ) (result : Status) → Type 0
Gets store count_of limits forks id key old new before after result = Answered store count_of limits forks (get_request id key forks) (look_up id key) old new before after result

-- ---- requests

-- what a request is answered with over live blocks, and what it loads
abbrev pub asked_output : Request → ForkState → Output
asked_output (Get id key) forks = get_request id.0 key forks
asked_output (Prove id ops) forks = prove_request id.0 ops.reads ops.batch.changes forks

abbrev pub asked_access : Request → Access
asked_access (Get id key) = look_up id.0 key
asked_access (Prove id ops) = record_texts id.0 ops.reads ops.batch.changes

-- the key that is asked for is one
abbrev pub IsRequest : Request → Type 0
IsRequest (Get id key) = length key ≤ longest_key
IsRequest (Prove id ops) = ⊤

abbrev pub AnswersRequest : {N : Type 0} (store : Store N) (count_of : N → List ℕ → ℕ) (limits : RunLimits) (forks : ForkState) (request : Request) (old new : ShardState N) (before after : List ℕ) (result : Status) → Type 0
AnswersRequest store count_of limits forks request old new before after result = Answered store count_of limits forks (asked_output request forks) (asked_access request) old new before after result

-- a history that is told quietly, and the request behind it
abbrev pub request_script : RunLimits → Request → Script History
request_script limits request = history_script true limits (asked_output request) (asked_access request)
