-- The command `prove`, as it is carried out: how operations are gathered, and what a recording leaves.
use Rattle.std.specs.Prelude.{◌≡◌, ◌≤◌, ◌<◌, ◌++◌, ℕ, List, Option, Some, None, Result, Ok, Err, ⊤, ◌⊎◌}
use Rattle.std.specs.FinMap.{len}
use Rattle.base_core.specs.Faults.{faults_after}
use Rattle.base_core.specs.ChangeMaps.{change_refusal}
use Rattle.base_core.specs.declared.put_error.PutError.{PutError}
use Rattle.base_core.specs.declared.put_error.PutError.TheVariants as put_error
use Rattle.trie_model.specs.State.{State, IsState}
use Rattle.trie_model.specs.Root as trie
use Rattle.trie_model.specs.Root.{Holds, Table}
use Rattle.batch_model.specs.Changes.{Changes}
use Rattle.count_model.specs.Clashes.{made_clash}
use Rattle.count_model.specs.Loads.{recording_loads}
use Rattle.script_model.specs.Words.{Op, read, set, delete}
use Rattle.text_store.specs.Store.{Store}
use Rattle.text_store.specs.Leaves.{CountsLoads}
use Rattle.shard_core.specs.Shards.{ShardState}
use Rattle.shard_core.specs.Loaded.{AreAlike}
use Rattle.partial_state.specs.Operations.{Operations, read_refusal, with_read, with_change}
use Rattle.output_model.specs.Prove.{changes_in, reads_in, recorded, recorded_unless}
use Rattle.shard_cmd.specs.declared.status.Status.{Status}
use Rattle.shard_cmd.specs.declared.status.Status.TheVariants as status
use Rattle.shard_cmd.specs.Ends.{run_ended, store_ended}
use Rattle.shard_cmd.specs.Requests.{AnswersAs}

-- ---- operations are gathered

-- with an operation more, and why it is not taken, if it is not
abbrev pub with_op : Operations → Op → Operations
with_op ops (read key) = with_read ops key
with_op ops (set key value) = with_change ops key (Some value)
with_op ops (delete key) = with_change ops key None

abbrev pub op_refusal : Operations → Op → Option PutError
op_refusal ops (read key) = read_refusal ops key
op_refusal ops (set key value) = change_refusal ops.batch key (Some value)
op_refusal ops (delete key) = change_refusal ops.batch key None

-- An operation is taken, or it is refused, or there was no memory.
abbrev pub AddsOp : Operations → Operations → Op → Result Unit PutError → Type 0
AddsOp old new op (Ok taken) = (new ≡ with_op old op) × (op_refusal old op ≡ None)
AddsOp old new op (Err error) = (op_refusal old op ≡ Some error) ⊎ (error ≡ put_error.NoMemory)

-- They are what the operations read and change, unless these change too many keys or there was no memory.
abbrev pub IsGathered : List Op → (most : ℕ) → Result Operations PutError → Type 0
IsGathered list most (Ok ops) = (ops.reads ≡ reads_in list) × (ops.batch.changes ≡ changes_in list) × (len (changes_in list) ≤ most)
IsGathered list most (Err put_error.Full) = most < len (changes_in list)
IsGathered list most (Err put_error.NoMemory) = ⊤
IsGathered list most (Err (put_error.KeyLong len)) = ⊥
IsGathered list most (Err (put_error.ValueLong len)) = ⊥

-- ---- a recording is made

-- A table holds a state's texts, and this is the state's root.
pub record Holding (table : Table) (root : List ℕ) (state : State) : Type 0 where
  pub holds : Holds table state
  pub is : IsState state
  pub root_is : root ≡ trie.root state

-- these bytes were put behind the others, and this is the status, unless memory failed
abbrev pub PutsUnless : (before after bytes : List ℕ) → (given result : Status) → Type 0
PutsUnless before after bytes given result = ((result ≡ given) × (after ≡ before ++ bytes)) ⊎ (result ≡ status.NoMemory)

-- What a recording at a state's root is answered with, and what it leaves of a shard.
pub record Records {N : Type 0} (store : Store N) (state : State) (reads : List (List ℕ)) (changes : Changes) (old new : ShardState N) (before after : List ℕ) (result : Status) : Type 0 where
  pub answers : AnswersAs (recorded_unless (made_clash state changes) (recorded state reads changes)) before after result
  pub alike : AreAlike store old new
  pub counted : CountsLoads (run_ended result) (store.loads old.nodes) (store.loads new.nodes) (recording_loads state reads changes)
  pub faults : store.faults new.nodes ≡ faults_after (store_ended result) (store.faults old.nodes)
