-- Why a script stops at a line.
use Rattle.std.proofs.Common.{◌≡◌, ◌≢◌, ℕ, ◌^◌, ◌≤◌, List, [], ◌∷◌, ◌++◌, length, Option, Some, None, Result, Err, IfSome, ap, subst, inl, inr, arith}
use Rattle.std.specs.Borrow.{Bor}
use Rattle.script_model.specs.Lines.{LineFault, long, past, first_fault, first_line, event_if}
use Rattle.script_io.specs.declared.line_error.LineError.{LineError}
use Rattle.script_io.specs.declared.line_error.LineError.TheVariants as line_error
use Rattle.script_io.specs.LinesStates.{LinesState, IsAsked}
use Rattle.script_model.proofs.LineFaults.{fault-none}
use Rattle.shard_cmd.specs.Events.{first_event, NextIs, line_stop}

fault-empty : (before : ℕ) → before ≤ 2 ^ 30 → first_fault before [] ≡ None
fault-empty before h = fault-none before 0 0 (inl (omega arith)) (omega arith)

faulty : (before : ℕ) (bytes : List ℕ) (fault : LineFault) → before ≤ 2 ^ 30 → first_fault before bytes ≡ Some fault → (length bytes ≢ 0) × (first_event before bytes ≡ None)
faulty before [] fault h e = absurd (cc (fault-empty before h))
faulty before (x ∷ bytes) fault h e = (λ z. absurd (omega arith), ap (λ o. event_if o (first_line (x ∷ bytes))) e)

-- at a line that was not handed out
pub stops_at_line : (old new : LinesState) (before after : Option (List ℕ)) (r : Result (Option (Bor (List ℕ))) LineError) (error : LineError) → r ≡ Err error → IsAsked old new before after r
    → IfSome before (λ left. NextIs (old.pending ++ left) old new after (Err (line_stop error)))
stops_at_line old new None after r error is asked = tt
stops_at_line old new (Some left) after r error is asked = by_error error (subst (λ (r : Result (Option (Bor (List ℕ))) LineError). IsAsked old new (Some left) after r) is asked)
  where
    by_error : (error : LineError) → IsAsked old new (Some left) after (Err error) → NextIs (old.pending ++ left) old new after (Err (line_stop error))
    by_error line_error.Long a = faulty old.before (old.pending ++ left) long (omega (arith, a.progress, a.bounded)) a.answer
    by_error line_error.Past a = faulty old.before (old.pending ++ left) past (omega (arith, a.progress, a.bounded)) a.answer
    by_error line_error.ReadFault a = tt
    by_error line_error.NoMemory a = inr a.undecided
