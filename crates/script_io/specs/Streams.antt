-- What reads and writes do to the bytes that a source has left and that a sink was given, where these are told.
use Rattle.std.specs.Prelude.{◌≡◌, ℕ, ◌<◌, ◌≤◌, List, [], ◌++◌, length, take, drop, Option, Some, Result, Ok, Err}
use Rattle.base_core.specs.declared.fault.Fault.{Fault}

-- ---- sources

-- A read put the first n bytes of what was left at the start of the buffer, and the rest is left. It put none into a buffer with room only where nothing was left.
pub record Delivers (input : List ℕ) (after : Option (List ℕ)) (room : ℕ) (buffer : List ℕ) (n : ℕ) : Type 0 where
  pub some : n ≤ length input
  pub prefix : take n buffer ≡ take n input
  pub rest : after ≡ Some (drop n input)
  pub at_end : n ≡ 0 → 0 < room → input ≡ []

-- a read that fails takes nothing
abbrev pub Reads : List ℕ → Option (List ℕ) → ℕ → List ℕ → Result ℕ Fault → Type 0
Reads input after room buffer (Ok n) = Delivers input after room buffer n
Reads input after room buffer (Err fault) = after ≡ Some input

-- ---- sinks

-- A write took the first n bytes of the piece, and they stand behind what was written. A write that fails appends nothing.
abbrev pub Writes : List ℕ → Option (List ℕ) → List ℕ → Result ℕ Fault → Type 0
Writes before after piece (Ok n) = after ≡ Some (before ++ take n piece)
Writes before after piece (Err fault) = after ≡ Some before

-- how many bytes of a piece are taken: at most all, and at least one where there is one
pub record IsTaken (piece : List ℕ) (n : ℕ) : Type 0 where
  pub most : n ≤ length piece
  pub least : 0 < length piece → 0 < n

-- a prefix of the piece stands behind what was written
pub record AppendsPrefix (before : List ℕ) (after : Option (List ℕ)) (piece : List ℕ) : Type 0 where
  pub prefix : List ℕ
  pub rest : List ℕ
  pub parts : piece ≡ prefix ++ rest
  pub told : after ≡ Some (before ++ prefix)

-- the piece stands behind what was written, or after a fault a prefix of it
abbrev pub Appends : List ℕ → Option (List ℕ) → List ℕ → Result Unit Fault → Type 0
Appends before after piece (Ok done) = after ≡ Some (before ++ piece)
Appends before after piece (Err fault) = AppendsPrefix before after piece
