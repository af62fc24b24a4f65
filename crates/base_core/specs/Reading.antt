-- What the calls of a reader answer: what reading the field gives.
use Rattle.std.specs.Prelude.{◌≡◌, ℕ, List, Result, Ok, Err, refl}
use Rattle.std.specs.Coded.{Coded, code_by, coded×, coded_ℕ, coded_list}
use Rattle.record_model.specs.Fields.{FrameFault, short, rest, ordinal, Cursor, Read}
use Rattle.base_core.specs.declared.borsh_error.BorshError.{BorshError}
use Rattle.base_core.specs.declared.borsh_error.BorshError.TheVariants.{Short, Rest, Ordinal}

abbrev pub cursor_code : Coded Cursor
cursor_code = code_by (ℕ × List ℕ) (coded× coded_ℕ (coded_list coded_ℕ)) (λ c. (c.at, c.left)) (λ p. record { at = p.0; left = p.1 }) (λ _. refl)

abbrev pub fault_of : BorshError → FrameFault
fault_of (Short at) = short at
fault_of (Rest at) = rest at
fault_of (Ordinal at) = ordinal at

-- A call answers a value, seen by view, and leaves the reader behind it, or it answers what is wrong and leaves the reader as it was.
abbrev pub Reads : {X Y : Type 0} → (X → Y) → Result X BorshError → Cursor → Cursor → (Cursor → Read Y) → Type 0
Reads view (Ok x) old new read = read old ≡ Ok (view x, new)
Reads view (Err e) old new read = (read old ≡ Err (fault_of e)) × (new ≡ old)

-- the same of a call that promises nothing of the reader where it refuses
abbrev pub Follows : {X Y : Type 0} → (X → Y) → Result X BorshError → Cursor → Cursor → (Cursor → Read Y) → Type 0
Follows view (Ok x) old new read = read old ≡ Ok (view x, new)
Follows view (Err e) old new read = read old ≡ Err (fault_of e)

-- and of a call that moves no reader
abbrev pub Answers : {X Y : Type 0} → (X → Y) → Result X BorshError → Result Y FrameFault → Type 0
Answers view (Ok x) read = read ≡ Ok (view x)
Answers view (Err e) read = read ≡ Err (fault_of e)
