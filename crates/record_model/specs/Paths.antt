-- Reading a packed path.
use Rattle.std.specs.Prelude.{ℕ, ◌/◌, ◌%◌, ◌==◌, ◌&&◌, not, Bool, List, [], ◌∷◌, drop, Result, Ok, Err, if◌then◌else◌}
use Rattle.byte_model.specs.Nibbles.{nibbles}

-- The first test that a packed path fails: it has a first byte; the two highest bits of that byte are clear; its low half is clear, unless a nibble stands there.
pub data PathFault : Type 0 where
  empty : PathFault
  flag : PathFault
  pad : PathFault

-- the two flags of the first byte: an odd number of nibbles, and a leaf's path
abbrev pub is_odd : ℕ → Bool
is_odd first = first / 0x10 % 2 == 1

abbrev pub is_leaf : ℕ → Bool
is_leaf first = first / 0x20 % 2 == 1

-- the path, and whether it ends at a leaf
unfoldable pub path_in : List ℕ → Result (List ℕ × Bool) PathFault
path_in [] = Err empty
path_in (first ∷ bytes) =
    if not (first / 0x40 == 0) then Err flag
    else if not (is_odd first) && not (first % 0x10 == 0) then Err pad
    else Ok (drop (if is_odd first then 1 else 2) (nibbles (first ∷ bytes)), is_leaf first)
