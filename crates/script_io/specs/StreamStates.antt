-- Sources and sinks in memory. They number their calls from 1, and those whose numbers are on a list fail.
use Rattle.std.specs.Prelude.{ℕ, ◌-◌, ◌==◌, ◌&&◌, min, nat_lt, List, ◌++◌, length, take, drop, Bool, if◌then◌else◌}
use Rattle.base_core.specs.Faults.{risen}
use Rattle.base_core.specs.Failing.{Failing, fails_next, after_call}

-- what a buffer holds, and how often it found no memory
pub record Kept : Type 0 where
  pub bytes : List ℕ
  pub faults : ℕ

-- What a source in memory has left, how many bytes it gives at most in a read, and which calls fail.
pub record SourceState : Type 0 where
  pub left : List ℕ
  pub piece : ℕ
  pub failing : Failing

-- how many bytes the next read gives to a buffer with so much room, if it does not fail
abbrev pub given : SourceState → ℕ → ℕ
given source room = min source.piece (min room (length source.left))

-- a source after a read into so much room
abbrev pub after_read : SourceState → ℕ → SourceState
after_read source room = if fails_next source.failing
    then record source { failing = after_call source.failing }
    else record source { failing = after_call source.failing; left = drop (given source room) source.left }

-- What a sink in memory holds, how many bytes it holds at most, how many it takes at most in a write, and which calls fail.
pub record SinkState : Type 0 where
  pub bytes : List ℕ
  pub most : ℕ
  pub piece : ℕ
  pub failing : Failing

-- how many bytes the next write takes of a piece
abbrev pub taken : SinkState → List ℕ → ℕ
taken sink piece = min sink.piece (min (sink.most - length sink.bytes) (length piece))

-- whether no byte of a piece has room
abbrev pub overflows : SinkState → List ℕ → Bool
overflows sink piece = (taken sink piece == 0) && nat_lt 0 (length piece)

-- whether the next write fails: its number is on the list, or no byte of the piece has room
abbrev pub refuses : SinkState → List ℕ → Bool
refuses sink piece = if fails_next sink.failing then nat_lt 0 1 else overflows sink piece

-- a failure of its own is counted
abbrev pub with_fault : Failing → Failing
with_fault f = record f { faults = risen f.faults 1 }

-- a sink after a write of this piece
abbrev pub after_write : SinkState → List ℕ → SinkState
after_write sink piece = if fails_next sink.failing then record sink { failing = after_call sink.failing }
    else if overflows sink piece then record sink { failing = with_fault (after_call sink.failing) }
    else record sink { failing = after_call sink.failing; bytes = sink.bytes ++ take (taken sink piece) piece }
