-- The window on an input: the bytes that came and are not handed out.
use Rattle.std.specs.Prelude.{◌≡◌, ◌≢◌, ℕ, ◌+◌, ◌<◌, ◌≤◌, List, [], ◌++◌, length, take, drop, Option, None, Some, Result, Ok, Err}
use Rattle.std.specs.List.{position_or_len}
use Rattle.script_model.specs.Lines.{is_line_feed, long, past, first_line, first_feed, first_fault, behind_line, line_fault, LineFault, longest_input}
use Rattle.script_io.specs.declared.line_error.LineError.{LineError}
use Rattle.script_io.specs.declared.line_error.LineError.TheVariants.{Long, Past, ReadFault, NoMemory}
use Rattle.script_io.specs.declared.window.LineSpan.{LineSpan}
use Rattle.script_io.specs.LinesStates.{IsLeft}

-- the index of the first line feed, or how many bytes there are
abbrev pub feed_index : List ℕ → ℕ
feed_index bytes = position_or_len is_line_feed bytes

-- A piece of n bytes came off what was left and stands behind what was pending. None came only where none were left.
pub record Takes (left : List ℕ) (after : Option (List ℕ)) (before pending : List ℕ) (n : ℕ) : Type 0 where
  pub more : pending ≡ before ++ take n left
  pub rest : after ≡ Some (drop n left)
  pub at_end : n ≡ 0 → left ≡ []

-- How long the first line of the pending bytes is, and how many line feeds end it, whatever the source tells.
pub record IsBounded (before : ℕ) (pending : List ℕ) (span : LineSpan) : Type 0 where
  pub within : span.length + span.feed ≤ length pending
  pub some : 0 < span.length + span.feed
  pub bounded : before + span.length + span.feed ≤ longest_input

-- It is the first line of what was left, and can be read. Behind it stands what is left of the pending bytes, and what the source has left.
pub record IsFirst (bytes : List ℕ) (before : ℕ) (pending : List ℕ) (after : Option (List ℕ)) (span : LineSpan) : Type 0 where
  pub some : length bytes ≢ 0
  pub readable : first_fault before bytes ≡ None
  pub line : take span.length pending ≡ first_line bytes
  pub feeds : span.feed ≡ first_feed bytes
  pub behind : IsLeft (drop (span.length + span.feed) pending) after (behind_line bytes)

-- what looking for the first line of these bytes finds
abbrev pub Finds : (bytes : List ℕ) (before : ℕ) (pending : List ℕ) (after : Option (List ℕ)) → Result (Option LineSpan) LineError → Type 0
Finds bytes before pending after (Ok None) = (bytes ≡ []) × (pending ≡ []) × (after ≡ Some [])
Finds bytes before pending after (Ok (Some span)) = IsFirst bytes before pending after span
Finds bytes before pending after (Err Long) = first_fault before bytes ≡ Some long
Finds bytes before pending after (Err Past) = first_fault before bytes ≡ Some past
Finds bytes before pending after (Err ReadFault) = Unit {0}
Finds bytes before pending after (Err NoMemory) = Unit {0}

-- the error that a fault of a line is told by
abbrev pub error_of : LineFault → LineError
error_of long = Long
error_of past = Past

-- a line, or why it is not read
abbrev pub judged_by : Option LineFault → LineSpan → Result (Option LineSpan) LineError
judged_by None span = Ok (Some span)
judged_by (Some fault) span = Err (error_of fault)

abbrev pub judgement_of : (before : ℕ) → LineSpan → Result (Option LineSpan) LineError
judgement_of before span = judged_by (line_fault before span.length span.feed) span
