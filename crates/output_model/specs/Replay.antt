-- The command `replay`: the whole input is a recording, and its reads and changes are carried out over its own texts, with nothing else at hand. What is written follows from the bytes, but for two things where the recording has not the texts that its changes touch, of a state with its root: which root stands behind the changes, and whether texts that they make share a digest.
use Rattle.std.specs.Prelude.{◌≡◌, ◌≢◌, ℕ, nat_lt, Bool, true, false, List, [], ◌∷◌, ◌++◌, length, map, codes, Option, None, Some, Result, Ok, Err, ◌⊎◌, Contains}
use Rattle.std.specs.FinMap.{get, from_entries}
use Rattle.hex.specs.Hex.{encode_lower}
use Rattle.sha2.specs.Sha256.{sha256}
use Rattle.byte_model.specs.Nibbles.{AreBytes}
use Rattle.byte_model.specs.Node.{digest_width}
use Rattle.record_model.specs.Fields.{FrameFault, short, rest, ordinal}
use Rattle.trie_model.specs.State.{State, IsState}
use Rattle.trie_model.specs.Root as trie
use Rattle.trie_model.specs.Root.{Table, NoClash, texts_of}
use Rattle.batch_model.specs.Changes.{after}
use Rattle.change_model.specs.Ledger.{made_texts}
use Rattle.change_model.specs.Places.{touched_places}
use Rattle.change_model.specs.Tables.{HoldsPlaces}
use Rattle.partial_model.specs.Recording.{Recording, RecordingFault, frame, head, order, clash, recording_in}
use Rattle.count_model.specs.Clashes.{made_clash}
use Rattle.recording_model.specs.Recorded.{recorded_texts}
use Rattle.recording_model.specs.Replays.{Visits, Refusal, missing, bad, usage, replay_visits, first_spare}
use Rattle.script_model.specs.Lines.{longest_input}
use Rattle.output_model.specs.Ends.{Output, done, line_of, syntax_at, clash_at, refused_place, refused_digest}
use Rattle.output_model.specs.Readings.{value_text}

-- ---- what is written

-- `read V`, or `read none` for a key without a value
abbrev pub read_line : Option (List ℕ) → List ℕ
read_line value = line_of (codes "read " ++ value_text value)

unfoldable pub read_lines : List (Option (List ℕ)) → List ℕ
read_lines [] = []
read_lines (value ∷ values) = read_line value ++ read_lines values

-- `root ROOT`
abbrev pub behind_changes : (root : List ℕ) → List ℕ
behind_changes root = line_of (codes "root " ++ encode_lower root)

-- what each read answers, in their order, and the root behind the changes
abbrev pub replayed : (answers : List (Option (List ℕ))) (root : List ℕ) → Output
replayed answers root = record { bytes = read_lines answers ++ behind_changes root; ending = done }

-- ---- bytes that are no recording

abbrev pub offset_of : FrameFault → ℕ
offset_of (short at) = at
offset_of (rest at) = at
offset_of (ordinal at) = at

abbrev pub no_recording : RecordingFault → Output
no_recording (frame fault) = syntax_at (offset_of fault)
no_recording (head at) = syntax_at at
no_recording (order place) = refused_place (codes "order") place
no_recording (clash digest) = clash_at digest

-- ---- a recording of which a test fails

abbrev pub test_failed : Refusal → Output
test_failed (missing digest) = refused_digest (codes "missing") digest
test_failed (bad digest) = refused_digest (codes "bad") digest
test_failed (usage digest) = refused_digest (codes "usage") digest

-- ---- a recording of which none fails

-- each text under its digest
abbrev pub table_of : List (List ℕ) → Table
table_of texts = from_entries (map (λ t. (sha256 t, t)) texts)

-- The root is that of a state, and the texts of all its places are there that the changes touch.
pub record StandsOn (recording : Recording) (state : State) : Type 0 where
  pub is : IsState state
  pub root : recording.root ≡ trie.root state
  pub held : HoldsPlaces (table_of recording.state) state (touched_places state [] recording.changes)

-- The root is that of a state, and none of the recording's texts can be taken for another one of the state's.
pub record IsOfState (recording : Recording) (state : State) : Type 0 where
  pub is : IsState state
  pub root : recording.root ≡ trie.root state
  pub apart : NoClash (texts_of state ++ recording.state)

-- The texts are those that the reads and the changes touch, each read answers what the state has, and the root is that of the state with the changes laid over.
pub record TellsState (recording : Recording) (state : State) (answers : List (Option (List ℕ))) (root : List ℕ) : Type 0 where
  pub texts : recording.state ≡ recorded_texts state recording.reads recording.changes
  pub answers_are : answers ≡ map (get state) recording.reads
  pub root_is : root ≡ trie.root (after state recording.changes)

-- as many bytes as a digest has
pub record IsDigest (bytes : List ℕ) : Type 0 where
  pub are_bytes : AreBytes bytes
  pub width : length bytes ≡ digest_width

-- All was carried out, and each text was visited. Over the texts of a state no two different texts that the changes make share a digest.
pub record IsCarriedOut (recording : Recording) (answers : List (Option (List ℕ))) (output : Output) : Type 0 where
  pub root : List ℕ
  pub output_is : output ≡ replayed answers root
  pub root_is : IsDigest root
  pub behind : (state : State) → StandsOn recording state → root ≡ trie.root (after state recording.changes)
  pub clear : (state : State) → StandsOn recording state → (a b : List ℕ) → Contains (made_texts state recording.changes) a → Contains (made_texts state recording.changes) b → sha256 a ≡ sha256 b → a ≡ b
  pub tells : (state : State) → IsOfState recording state → TellsState recording state answers root

-- Two different texts share a digest. Over the texts of a state it is the least one that different texts share which the changes make.
pub record IsClashed (recording : Recording) (output : Output) : Type 0 where
  pub digest : List ℕ
  pub one : List ℕ
  pub other : List ℕ
  pub output_is : output ≡ clash_at digest
  pub of_one : sha256 one ≡ digest
  pub of_other : sha256 other ≡ digest
  pub differ : one ≢ other
  pub made : (state : State) → StandsOn recording state → made_clash state recording.changes ≡ Some digest

-- The first text that nothing visits is told, if there is one.
abbrev pub IsBySpare : Recording → (answers : List (Option (List ℕ))) → (spare : Option ℕ) → Output → Type 0
IsBySpare recording answers None output = IsCarriedOut recording answers output
IsBySpare recording answers (Some place) output = output ≡ refused_place (codes "spare") place

-- ---- what may be written

abbrev pub IsByRefusal : Recording → Visits → Option Refusal → Output → Type 0
IsByRefusal recording visits (Some refusal) output = output ≡ test_failed refusal
IsByRefusal recording visits None output = IsClashed recording output ⊎ IsBySpare recording visits.answers (first_spare visits.digests recording.state) output

-- The reads look at the state before any change, and are carried out in their order, and the changes behind them.
abbrev pub visits_in : Recording → Visits
visits_in recording = replay_visits (table_of recording.state) recording.root recording.reads recording.changes

abbrev pub IsReplay : Recording → Output → Type 0
IsReplay recording output = IsByRefusal recording (visits_in recording) (visits_in recording).refusal output

abbrev pub IsByReading : Result Recording RecordingFault → Output → Type 0
IsByReading (Ok recording) output = IsReplay recording output
IsByReading (Err fault) output = output ≡ no_recording fault

-- An input of more bytes than one may have is refused behind the last of these, and not read as a recording.
abbrev pub IsByLength : (is_long : Bool) → (input : List ℕ) → Output → Type 0
IsByLength true input output = output ≡ syntax_at longest_input
IsByLength false input output = IsByReading (recording_in input) output

unfoldable pub IsReplayOutput : (input : List ℕ) → Output → Type 0
IsReplayOutput input output = IsByLength (nat_lt longest_input (length input)) input output
