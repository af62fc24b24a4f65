-- An input that is taken off a source whole, in whatever pieces it gives its bytes.
use Rattle.std.specs.Prelude.{◌≡◌, ℕ, ◌+◌, ◌<◌, ◌≤◌, List, [], ◌++◌, length, take, Option, Some, IfSome, IfErr, Result, Ok, Err}
use Rattle.base_core.specs.Faults.{Ended, done, refused, failed, short_of_memory}
use Rattle.script_model.specs.Lines.{longest_input}
use Rattle.script_io.specs.LinesStates.{Extends}
use Rattle.script_io.specs.declared.feed_error.FeedError.{FeedError}
use Rattle.script_io.specs.declared.feed_error.FeedError.TheVariants.{Short, ReadFault, NoMemory}

-- What a feed has: bytes that came and are not handed out, and how many were handed out.
pub record FeedState : Type 0 where
  pub pending : List ℕ
  pub before : ℕ

-- ---- where the source tells its bytes

-- All bytes are handed out, which are no more than an input may have, and nothing is left.
pub record HandsOutAll (bytes : List ℕ) (before : ℕ) (left : Option (List ℕ)) (text : List ℕ) : Type 0 where
  pub whole : text ≡ bytes
  pub few : before + length bytes ≤ longest_input
  pub read : left ≡ Some []

-- what asking for all answers, where these bytes of the input are left
abbrev pub AllIs : (bytes : List ℕ) (before : ℕ) (left : Option (List ℕ)) → Result (List ℕ) FeedError → Type 0
AllIs bytes before left (Ok text) = HandsOutAll bytes before left text
AllIs bytes before left (Err (Short at)) = (at ≡ longest_input) × (longest_input < before + length bytes)
AllIs bytes before left (Err ReadFault) = Unit {0}
AllIs bytes before left (Err NoMemory) = Unit {0}

-- ---- of any source

-- What was pending begins the text, and nothing is pending behind it.
pub record Leaves (old new : FeedState) (text : List ℕ) : Type 0 where
  pub begin : take (length old.pending) text ≡ old.pending
  pub empty : new.pending ≡ []
  pub before : new.before ≡ old.before + length text

-- Nothing was handed out, and what came is kept.
pub record Keeps (old new : FeedState) (left after : Option (List ℕ)) : Type 0 where
  pub stays : new.before ≡ old.before
  pub extends : Extends old.pending left new.pending after

abbrev pub LeavesOrKeeps : Result (List ℕ) FeedError → (old new : FeedState) (left after : Option (List ℕ)) → Type 0
LeavesOrKeeps (Ok text) old new left after = Leaves old new text
LeavesOrKeeps (Err error) old new left after = Keeps old new left after

-- The input is refused where more bytes came than it may have. The source and memory are to blame only where that is not so.
abbrev pub IsUndecided : FeedError → (before : ℕ) (pending : List ℕ) → Type 0
IsUndecided (Short at) before pending = (at ≡ longest_input) × (longest_input < before + length pending)
IsUndecided ReadFault before pending = before + length pending ≤ longest_input
IsUndecided NoMemory before pending = before + length pending ≤ longest_input

-- what a read that fails is told by
abbrev pub IsUnread : FeedError → Type 0
IsUnread (Short at) = ⊥
IsUnread ReadFault = Unit {0}
IsUnread NoMemory = Unit {0}

-- whose doing the answer is
abbrev pub feed_ended : {X : Type 0} → Result X FeedError → Ended
feed_ended (Ok x) = done
feed_ended (Err (Short at)) = refused
feed_ended (Err ReadFault) = failed
feed_ended (Err NoMemory) = short_of_memory

-- A feed after it was asked for all.
pub record IsTakenWhole (old new : FeedState) (before after : Option (List ℕ)) (result : Result (List ℕ) FeedError) : Type 0 where
  pub answer : IfSome before (λ left. AllIs (old.pending ++ left) old.before after result)
  pub leaves : LeavesOrKeeps result old new before after
  pub undecided : IfErr result (λ error. IsUndecided error new.before new.pending)
  pub bounded : new.before ≤ longest_input
