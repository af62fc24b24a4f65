-- Errors that a `?` passes on.
use Rattle.std.proofs.Common.{◌≡◌, Result, Ok, Err, sym, subst}
use Rattle.std.specs.Prelude.{IsErrAnd}

-- what is shown of an error that a `?` passed on
pub passed_on : {X E : Type 0} (P : Result X E → Type 0) (result : Result X E) (error : E) → IsErrAnd result (λ given. given ≡ error) → P (Err error) → P result
passed_on P (Ok x) error is shown = absurd is
passed_on P (Err given) error is shown = subst (λ e. P (Err e)) (sym is) shown
