-- Reading the fields of a record from left to right (Borsh 1.0), and where the first stands that is not whole.
use Rattle.std.specs.Prelude.{ℕ, zero, suc, ◌+◌, ◌==◌, nat_lt, List, [], ◌++◌, length, take, drop, Result, Ok, Err, if◌then◌else◌}
use Rattle.std.specs.Int.{Width, w32, byte_len, from_le_bytes}
use Rattle.byte_model.specs.Node.{digest_width}

-- The first thing that is wrong with a layout, and its offset. `short`: the bytes end within a field, or within the body of a vector behind its count, and the offset is where that begins. `rest`: a byte follows the last field. `ordinal`: a byte names no kind of node.
pub data FrameFault : Type 0 where
  short : (at : ℕ) → FrameFault
  rest : (at : ℕ) → FrameFault
  ordinal : (at : ℕ) → FrameFault

-- how many bytes were read, and those that were not
pub record Cursor : Type 0 where
  pub at : ℕ
  pub left : List ℕ

abbrev pub start_of : List ℕ → Cursor
start_of bytes = record { at = 0; left = bytes }

-- a value and what is left behind it, or what is wrong
abbrev pub Read : Type 0 → Type 0
Read X = Result (X × Cursor) FrameFault

-- one step after another, up to the first that fails
infixl 10 ◌>>=◌
abbrev pub ◌>>=◌ : {A B E : Type 0} → Result A E → (A → Result B E) → Result B E
(Ok x) >>= f = f x
(Err e) >>= f = Err e

-- so many bytes
unfoldable pub bytes_at : ℕ → Cursor → Read (List ℕ)
bytes_at n c =
    if nat_lt (length c.left) n then Err (short c.at)
    else Ok (take n c.left, record { at = c.at + n; left = drop n c.left })

-- an integer, the lowest byte first
unfoldable pub number_at : Width → Cursor → Read ℕ
number_at w c = do
  bytes ← bytes_at (byte_len w) c
  Ok (from_le_bytes w bytes.0, bytes.1)

-- a vector of bytes: how many, as four bytes, and then the bytes
unfoldable pub vector_at : Cursor → Read (List ℕ)
vector_at c = do
  count ← number_at w32 c
  bytes_at count.0 count.1

-- so many digests, each a field
unfoldable pub digests_at : ℕ → Cursor → Read (List ℕ)
digests_at zero c = Ok ([], c)
digests_at (suc n) c = do
  first ← bytes_at digest_width c
  others ← digests_at n first.1
  Ok (first.0 ++ others.0, others.1)

-- nothing is left
unfoldable pub end_of : {X : Type 0} → X → Cursor → Result X FrameFault
end_of x c = if length c.left == 0 then Ok x else Err (rest c.at)
