-- Lines that are taken off a source, in whatever pieces it gives its bytes.
use Rattle.std.specs.Prelude.{◌≡◌, ◌≢◌, ℕ, ◌+◌, ◌≤◌, List, [], ◌++◌, length, take, Option, None, Some, IfSome, IfErr, Result, Ok, Err}
use Rattle.std.specs.Borrow.{Bor}
use Rattle.base_core.specs.Faults.{Ended, done, refused, failed, short_of_memory}
use Rattle.script_model.specs.Lines.{long, past, first_line, first_feed, first_fault, behind_line, longest_input}
use Rattle.script_io.specs.declared.line_error.LineError.{LineError}
use Rattle.script_io.specs.declared.line_error.LineError.TheVariants.{Long, Past, ReadFault, NoMemory}

-- What a reader of lines has: bytes that came and are not handed out, how many bytes and lines were handed out, and the number of the line last asked for.
pub record LinesState : Type 0 where
  pub pending : List ℕ
  pub before : ℕ
  pub lines : ℕ
  pub number : ℕ

-- each line has a byte or a line feed, and not more of them are handed out than an input may have
pub record IsCount (lines before : ℕ) : Type 0 where
  pub fewer : lines ≤ before
  pub bounded : before ≤ longest_input

-- what is pending, and then what the source has left, are these bytes
abbrev pub IsLeft : (pending : List ℕ) (left : Option (List ℕ)) (bytes : List ℕ) → Type 0
IsLeft pending left bytes = (rest : List ℕ) × (left ≡ Some rest) × (pending ++ rest ≡ bytes)

-- Pending bytes go on with what comes off the source. None is handed out, so what is pending and what is left are together the same bytes.
pub record Extends (old : List ℕ) (left : Option (List ℕ)) (new : List ℕ) (after : Option (List ℕ)) : Type 0 where
  pub begin : take (length old) new ≡ old
  pub bytes : IfSome left (λ l. IsLeft new after (old ++ l))

-- ---- the answers

-- Nothing of the input is left.
pub record IsEnd (bytes : List ℕ) (new : LinesState) (left : Option (List ℕ)) : Type 0 where
  pub none : bytes ≡ []
  pub read : left ≡ Some []
  pub pending : new.pending ≡ []

-- The first line of what was left is handed out, and what comes behind it is left.
pub record HandsOut (bytes : List ℕ) (old new : LinesState) (left : Option (List ℕ)) (line : List ℕ) : Type 0 where
  pub some : length bytes ≢ 0
  pub readable : first_fault old.before bytes ≡ None
  pub first : line ≡ first_line bytes
  pub before : new.before ≡ old.before + length (first_line bytes) + first_feed bytes
  pub behind : IsLeft new.pending left (behind_line bytes)

-- what asking for the next line answers, where these bytes of the input are left
abbrev pub NextLineIs : (bytes : List ℕ) (old new : LinesState) (left : Option (List ℕ)) → Result (Option (Bor (List ℕ))) LineError → Type 0
NextLineIs bytes old new left (Ok None) = IsEnd bytes new left
NextLineIs bytes old new left (Ok (Some line)) = HandsOut bytes old new left line.now
NextLineIs bytes old new left (Err Long) = first_fault old.before bytes ≡ Some long
NextLineIs bytes old new left (Err Past) = first_fault old.before bytes ≡ Some past
NextLineIs bytes old new left (Err ReadFault) = Unit {0}
NextLineIs bytes old new left (Err NoMemory) = Unit {0}

-- ---- where no line is handed out

-- The next line begins where it began, and all of it is still there.
pub record Remains (old new : LinesState) (left after : Option (List ℕ)) : Type 0 where
  pub stays : new.before ≡ old.before
  pub extends : Extends old.pending left new.pending after

abbrev pub RemainsUnlessHandedOut : {X : Type 0} → Result (Option X) LineError → (old new : LinesState) (left after : Option (List ℕ)) → Type 0
RemainsUnlessHandedOut (Ok None) old new left after = Remains old new left after
RemainsUnlessHandedOut (Ok (Some line)) old new left after = Unit {0}
RemainsUnlessHandedOut (Err error) old new left after = Remains old new left after

-- The line is not decided by the pending bytes: it does not end among them, and they are not too long.
pub record IsOpen (before : ℕ) (pending : List ℕ) : Type 0 where
  pub no_feed : first_feed pending ≡ 0
  pub no_fault : first_fault before pending ≡ None

-- The source and memory are to blame only where more bytes were needed.
abbrev pub IsOpenAt : LineError → (before : ℕ) (pending : List ℕ) → Type 0
IsOpenAt Long before pending = Unit {0}
IsOpenAt Past before pending = Unit {0}
IsOpenAt ReadFault before pending = IsOpen before pending
IsOpenAt NoMemory before pending = IsOpen before pending

-- ---- asking for the next line

-- how many lines an answer hands out
abbrev pub handed_out : {X : Type 0} → Result (Option X) LineError → ℕ
handed_out (Ok None) = 0
handed_out (Ok (Some line)) = 1
handed_out (Err error) = 0

-- whose doing the answer is
abbrev pub ended_by : {X : Type 0} → Result X LineError → Ended
ended_by (Ok found) = done
ended_by (Err Long) = refused
ended_by (Err Past) = refused
ended_by (Err ReadFault) = failed
ended_by (Err NoMemory) = short_of_memory

-- A reader of lines after it was asked for the next one.
pub record IsAsked (old new : LinesState) (before after : Option (List ℕ)) (result : Result (Option (Bor (List ℕ))) LineError) : Type 0 where
  pub answer : IfSome before (λ left. NextLineIs (old.pending ++ left) old new after result)
  pub remains : RemainsUnlessHandedOut result old new before after
  pub undecided : IfErr result (λ error. IsOpenAt error new.before new.pending)
  pub number : new.number ≡ old.lines + 1
  pub lines : new.lines ≡ old.lines + handed_out result
  pub progress : old.before + handed_out result ≤ new.before
  pub bounded : new.before ≤ longest_input
