-- What reading a packed path answers.
use Rattle.std.specs.Prelude.{◌≡◌, Result, Ok, Err}
use Rattle.record_model.specs.Paths.{PathFault, empty, flag, pad}
use Rattle.nibble_keys.specs.declared.pack_error.PackError.{PackError}
use Rattle.nibble_keys.specs.declared.pack_error.PackError.TheVariants.{Empty, Flag, Pad}

abbrev pub fault_of : PackError → PathFault
fault_of Empty = empty
fault_of Flag = flag
fault_of Pad = pad

-- a call answers a value, seen by view, or what is wrong
abbrev pub Answers : {X Y : Type 0} → (X → Y) → Result X PackError → Result Y PathFault → Type 0
Answers view (Ok x) read = read ≡ Ok (view x)
Answers view (Err e) read = read ≡ Err (fault_of e)
