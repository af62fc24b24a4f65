-- What the readers and writers of std have left and hold, where these tell it, after a call of the source or sink over them.
use Rattle.std.specs.Prelude.{ℕ, ◌≤◌, List, length, take, Option, Result, Ok, Err}
use Rattle.std.specs.Io.KnownBytes.{Appends}
use Rattle.base_core.specs.declared.fault.Fault.{Fault}

-- a writer took the first n bytes of a piece
pub record AppendsFirst (before after : Option (List ℕ)) (piece : List ℕ) : Type 0 where
  pub count : ℕ
  pub within : count ≤ length piece
  pub appended : Appends before after (take count piece)

-- The bytes that a write answers for were taken. After a fault some may have been: the writer failed behind them.
abbrev pub WritesThrough : (before after : Option (List ℕ)) (piece : List ℕ) → Result ℕ Fault → Type 0
WritesThrough before after piece (Ok n) = Appends before after (take n piece)
WritesThrough before after piece (Err fault) = AppendsFirst before after piece
