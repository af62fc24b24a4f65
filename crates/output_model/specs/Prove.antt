-- The command `prove`: the recording of reads and changes at a live block behind a history of blocks that is told quietly. The reads look at the block's state, before any change. Of the changes of one key the last counts.
use Rattle.std.specs.Prelude.{ℕ, nat_lt, Bool, true, List, [], ◌∷◌, codes, Option, None, Some}
use Rattle.std.specs.FinMap.{empty, insert, len}
use Rattle.trie_model.specs.State.{State}
use Rattle.trie_model.specs.Root as trie
use Rattle.batch_model.specs.Changes.{Changes}
use Rattle.partial_model.specs.Recording.{Recording, spelled_recording}
use Rattle.fork_model.specs.States.{ForkState, state_at}
use Rattle.count_model.specs.Clashes.{made_clash}
use Rattle.count_model.specs.Loads.{record_texts}
use Rattle.recording_model.specs.Recorded.{recorded_texts}
use Rattle.script_model.specs.Words.{Op, read, set, delete}
use Rattle.output_model.specs.Ends.{Output, RunLimits, done, line_of, refused, clash_at, not_live}
use Rattle.output_model.specs.Scripts.{Script}
use Rattle.output_model.specs.Histories.{History, history_script}

-- ---- what operations read and change

-- the keys that are read, in their order
unfoldable pub reads_in : List Op → List (List ℕ)
reads_in [] = []
reads_in (read key ∷ ops) = key ∷ reads_in ops
reads_in (set key value ∷ ops) = reads_in ops
reads_in (delete key ∷ ops) = reads_in ops

-- the changes of operations, laid over others
unfoldable pub laid_over : Changes → List Op → Changes
laid_over changes [] = changes
laid_over changes (read key ∷ ops) = laid_over changes ops
laid_over changes (set key value ∷ ops) = laid_over (insert changes key (Some value)) ops
laid_over changes (delete key ∷ ops) = laid_over (insert changes key None) ops

abbrev pub changes_in : List Op → Changes
changes_in ops = laid_over empty ops

-- ---- the request

-- more keys are changed than may be
abbrev pub full_changes : Output
full_changes = record { bytes = line_of (codes "refused full-changes"); ending = refused }

-- what a state, reads and changes are recorded as
abbrev pub recorded : State → (reads : List (List ℕ)) → Changes → Recording
recorded state reads changes = record { root = trie.root state; reads = reads; changes = changes; state = recorded_texts state reads changes }

-- the bytes of the recording, unless two different texts that the changes make share a digest
abbrev pub recorded_unless : (clash : Option (List ℕ)) → Recording → Output
recorded_unless None recording = record { bytes = spelled_recording recording; ending = done }
recorded_unless (Some digest) recording = clash_at digest

-- where the block is live
abbrev pub prove_from : (reads : List (List ℕ)) → Changes → Option State → Output
prove_from reads changes None = not_live
prove_from reads changes (Some state) = recorded_unless (made_clash state changes) (recorded state reads changes)

unfoldable pub prove_request : (id : List ℕ) (reads : List (List ℕ)) → Changes → ForkState → Output
prove_request id reads changes forks = prove_from reads changes (state_at forks id)

abbrev pub prove_script : RunLimits → (id : List ℕ) (reads : List (List ℕ)) → Changes → Script History
prove_script limits id reads changes = history_script true limits (prove_request id reads changes) (record_texts id reads changes)

-- whether operations change more keys than may be
abbrev pub changes_too_many : RunLimits → List Op → Bool
changes_too_many limits ops = nat_lt limits.changes (len (changes_in ops))
