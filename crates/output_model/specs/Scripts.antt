-- What becomes of a script: its lines one after the other, and a last request behind them. A command says what each event does and loads, and what its last request answers and loads.
use Rattle.std.specs.Prelude.{ℕ, ◌+◌, ◌==◌, List, [], ◌∷◌, ◌++◌, length, Option, None, Some, if◌then◌else◌}
use Rattle.script_model.specs.Lines.{Event, pieces, read_at}
use Rattle.output_model.specs.Ends.{Output, syntax_at}

-- What an event does in a state: the script goes on in another state, and this reply was written; or the run ends there with this output.
pub data Step (S : Type 0) : Type 0 where
  goes_on : (reply : List ℕ) (after : S) → Step S
  ends : Output → Step S

-- A command whose input is a script: the state before the first line, what an event does, and the last request, which is answered behind the last line. Lines are numbered from 1, and the last request has the number of the line that would come next. An event and the last request load so many texts.
pub record Script (S : Type 0) : Type 0 where
  pub begin : S
  pub step : (number : ℕ) → S → Event → Step S
  pub last : (number : ℕ) → S → Output
  pub step_loads : S → Event → ℕ
  pub last_loads : S → ℕ

-- What becomes of a script: its output, how many texts it loads, and the state that it leaves, which is that before the event at which it ends.
pub record Outcome (S : Type 0) : Type 0 where
  pub output : Output
  pub loaded : ℕ
  pub left : S

-- an output behind a reply
abbrev pub behind : List ℕ → Output → Output
behind reply output = record { bytes = reply ++ output.bytes; ending = output.ending }

-- what becomes of a script behind a reply and some loads
abbrev pub onward : {S : Type 0} → (reply : List ℕ) (loads : ℕ) → Outcome S → Outcome S
onward reply loads outcome = record { output = behind reply outcome.output; loaded = loads + outcome.loaded; left = outcome.left }

-- from an event on, where `others` is what comes of the lines behind it
abbrev pub after_step : {S : Type 0} → Step S → (loads : ℕ) → S → (S → Outcome S) → Outcome S
after_step (goes_on reply after) loads state others = onward reply loads (others after)
after_step (ends output) loads state others = record { output = output; loaded = loads; left = state }

-- from a line on that asks for this, if it is one of a script
abbrev pub after_line : {S : Type 0} → Script S → (number : ℕ) → Option Event → S → (S → Outcome S) → Outcome S
after_line script number None state others = record { output = syntax_at number; loaded = 0; left = state }
after_line script number (Some event) state others = after_step (script.step number state event) (script.step_loads state event) state others

-- behind the last line
abbrev pub at_last : {S : Type 0} → Script S → (number : ℕ) → S → Outcome S
at_last script number state = record { output = script.last number state; loaded = script.last_loads state; left = state }

-- What becomes of the lines from one on: `before` bytes came before it, and it has this number. Each but the last has a line feed, and the last is a line where it has a byte.
unfoldable pub lines_outcome : {S : Type 0} → Script S → (before number : ℕ) → S → List (List ℕ) → Outcome S
lines_outcome script before number state [] = at_last script number state
lines_outcome script before number state (line ∷ []) =
    if length line == 0 then at_last script number state else after_line script number (read_at before 0 line) state (λ after. at_last script (number + 1) after)
lines_outcome script before number state (line ∷ next ∷ lines) =
    after_line script number (read_at before 1 line) state (λ after. lines_outcome script (before + length line + 1) (number + 1) after (next ∷ lines))

-- what becomes of a whole input
unfoldable pub script_outcome : {S : Type 0} → Script S → List ℕ → Outcome S
script_outcome script input = lines_outcome script 0 1 script.begin (pieces input)

abbrev pub script_output : {S : Type 0} → Script S → List ℕ → Output
script_output script input = (script_outcome script input).output
