-- Recordings (this project): a root, keys that are read, a batch of changes, and a partial state with the texts that these touch. Which bytes spell one (Borsh 1.0), and what is read from any bytes.
use Rattle.std.specs.Prelude.{◌≡◌, ℕ, zero, suc, ◌≤◌, ◌==◌, nat_lt, Bool, true, List, [], ◌∷◌, ◌++◌, length, Option, None, Some, Result, Ok, Err, if◌then◌else◌}
use Rattle.std.specs.List.{AllByRecursion}
use Rattle.std.specs.Int.{w8, w32}
use Rattle.std.specs.FinMap.{entries, from_sorted}
use Rattle.byte_model.specs.Nibbles.{AreBytes, longest_key}
use Rattle.byte_model.specs.Borsh.{borsh_u32, borsh_bytes, borsh_option}
use Rattle.byte_model.specs.Node.{digest_width, longest_value}
use Rattle.record_model.specs.Fields.{FrameFault, ordinal, Cursor, start_of, ◌>>=◌, bytes_at, number_at, vector_at, end_of}
use Rattle.batch_model.specs.Changes.{Changes, Change, AreChanges, most_changes}
use Rattle.partial_model.specs.Texts.{is_above}
use Rattle.partial_model.specs.Partial as partial
use Rattle.partial_model.specs.Partial.{IsPartial, PartialFault, spelled_texts, spelled_partial, partial_at}

-- the most keys that a recording reads
abbrev pub most_reads : ℕ
most_reads = 65536

-- The reads stand in the order in which they are made, and may repeat. All look at the state before any change.
pub record Recording : Type 0 where
  pub root : List ℕ
  pub reads : List (List ℕ)
  pub changes : Changes
  pub state : List (List ℕ)

-- ---- from values to bytes

-- a key, and what it becomes
abbrev pub spelled_change : Change → List ℕ
spelled_change change = borsh_bytes change.0 ++ borsh_option borsh_bytes change.1

unfoldable pub spelled_changes : List Change → List ℕ
spelled_changes [] = []
spelled_changes (change ∷ changes) = spelled_change change ++ spelled_changes changes

-- the root, how many reads and then their keys, how many changes and then the changes by rising key, and the partial state
unfoldable pub spelled_recording : Recording → List ℕ
spelled_recording r =
    r.root ++ (borsh_u32 (length r.reads) ++ spelled_texts r.reads) ++ (borsh_u32 (length (entries r.changes)) ++ spelled_changes (entries r.changes)) ++ spelled_partial r.state

abbrev pub IsKey : List ℕ → Type 0
IsKey key = AreBytes key × (length key ≤ longest_key)

-- The parts are byte strings within the limits.
pub record IsRecording (r : Recording) : Type 0 where
  pub root : AreBytes r.root × (length r.root ≡ digest_width)
  pub few_reads : length r.reads ≤ most_reads
  pub each_read : AllByRecursion IsKey r.reads
  pub changes : AreChanges r.changes
  pub state : IsPartial r.state

-- ---- from bytes to values

-- Why bytes are no recording. `frame`: what is wrong with the layout. `head`: a count, a key or a value is beyond its limit, or a changed key is not above the one before it, and the offset is where that count or vector begins. The others are those of a partial state.
pub data RecordingFault : Type 0 where
  frame : FrameFault → RecordingFault
  head : (at : ℕ) → RecordingFault
  order : (place : ℕ) → RecordingFault
  clash : (digest : List ℕ) → RecordingFault

-- what is read, and what is left behind it
abbrev pub ReadHead : Type 0 → Type 0
ReadHead X = Result (X × Cursor) RecordingFault

abbrev pub in_frame : {X : Type 0} → Result X FrameFault → Result X RecordingFault
in_frame (Ok x) = Ok x
in_frame (Err e) = Err (frame e)

abbrev pub in_state : {X : Type 0} → Result X PartialFault → Result X RecordingFault
in_state (Ok x) = Ok x
in_state (Err (partial.frame e)) = Err (frame e)
in_state (Err (partial.order place)) = Err (order place)
in_state (Err (partial.clash digest)) = Err (clash digest)

-- A count and a vector within a limit. A field that is not whole is told before that it is beyond its limit.
unfoldable pub count_within : ℕ → Cursor → ReadHead ℕ
count_within most c = do
  count ← in_frame (number_at w32 c)
  if nat_lt most count.0 then Err (head c.at) else Ok count

unfoldable pub vector_within : ℕ → Cursor → ReadHead (List ℕ)
vector_within most c = do
  bytes ← in_frame (vector_at c)
  if nat_lt most (length bytes.0) then Err (head c.at) else Ok bytes

-- so many keys, one after the other
unfoldable pub keys_at : ℕ → Cursor → ReadHead (List (List ℕ))
keys_at zero c = Ok ([], c)
keys_at (suc n) c = do
  first ← vector_within longest_key c
  others ← keys_at n first.1
  Ok (first.0 ∷ others.0, others.1)

unfoldable pub reads_at : Cursor → ReadHead (List (List ℕ))
reads_at c = do
  count ← count_within most_reads c
  keys_at count.0 count.1

unfoldable pub value_at : Cursor → ReadHead (Option (List ℕ))
value_at c = do
  value ← vector_within longest_value c
  Ok (Some value.0, value.1)

-- no value behind the byte 0, and one behind the byte 1
unfoldable pub becomes_at : Cursor → ReadHead (Option (List ℕ))
becomes_at c = do
  kind ← in_frame (number_at w8 c)
  if kind.0 == 0 then Ok (None, kind.1) else if kind.0 == 1 then value_at kind.1 else Err (frame (ordinal c.at))

-- whether a key is above the one before it, if there is one
abbrev pub follows : Option (List ℕ) → List ℕ → Bool
follows None key = true
follows (Some earlier) key = is_above key earlier

-- a change behind an earlier key: its key is tested before what it becomes is read
unfoldable pub change_at : Option (List ℕ) → Cursor → ReadHead Change
change_at earlier c = do
  key ← vector_within longest_key c
  key ← if follows earlier key.0 then Ok key else Err (head c.at)
  value ← becomes_at key.1
  Ok ((key.0, value.0), value.1)

unfoldable pub changes_from : ℕ → Option (List ℕ) → Cursor → ReadHead (List Change)
changes_from zero earlier c = Ok ([], c)
changes_from (suc n) earlier c = do
  first ← change_at earlier c
  others ← changes_from n (Some first.0.0) first.1
  Ok (first.0 ∷ others.0, others.1)

unfoldable pub changes_at : Cursor → ReadHead (List Change)
changes_at c = do
  count ← count_within most_changes c
  changes_from count.0 None count.1

-- All of some bytes. That nothing is left is the last test of all.
unfoldable pub recording_in : List ℕ → Result Recording RecordingFault
recording_in bytes = do
  root ← in_frame (bytes_at digest_width (start_of bytes))
  reads ← reads_at root.1
  changes ← changes_at reads.1
  state ← in_state (partial_at changes.1)
  in_frame (end_of (record { root = root.0; reads = reads.0; changes = from_sorted changes.0; state = state.0 }) state.1)
