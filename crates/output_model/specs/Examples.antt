-- The ids and lines of worked histories, and a worked recording.
use Rattle.std.specs.Prelude.{ℕ, List, [], ◌∷◌, ◌++◌, codes, replicate}
use Rattle.output_model.specs.Ends.{RunLimits, line_of}

-- an id of 64 times the same digit: that of the start, and two more
abbrev pub start_id : List ℕ
start_id = replicate 64 48

abbrev pub one_id : List ℕ
one_id = replicate 64 49

abbrev pub two_id : List ℕ
two_id = replicate 64 50

abbrev pub few : RunLimits
few = record { pairs = 4; blocks = 4; changes = 4 }

-- no key may be changed
abbrev pub unchanging : RunLimits
unchanging = record { pairs = 4; blocks = 4; changes = 0 }

-- a block over the start
abbrev pub begins_one : List ℕ
begins_one = line_of (codes "block " ++ one_id ++ codes " " ++ start_id ++ codes " 7")

-- its end, without a change
abbrev pub ends_one : List ℕ
ends_one = line_of (codes "end")

-- and that it was accepted, with the root of the empty state
abbrev pub one_accepted : List ℕ
one_accepted = line_of (codes "block " ++ one_id ++ codes " ok " ++ start_id)

-- a root that no text has here
abbrev pub some_root : List ℕ
some_root = replicate 32 1

-- a recording of one read at that root, of the key 61, without a change and without a text
abbrev pub one_read : List ℕ
one_read = some_root ++ (1 ∷ 0 ∷ 0 ∷ 0 ∷ []) ++ (1 ∷ 0 ∷ 0 ∷ 0 ∷ 0x61 ∷ []) ++ (0 ∷ 0 ∷ 0 ∷ 0 ∷ []) ++ (0 ∷ 0 ∷ 0 ∷ 0 ∷ 0 ∷ [])
