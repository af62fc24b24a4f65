-- Objects in memory that fail at chosen calls.
use Rattle.std.specs.Prelude.{ℕ, ◌==◌, List, Bool, if◌then◌else◌, refl}
use Rattle.std.specs.List.{list_any}
use Rattle.std.specs.Coded.{Coded, code_by, coded×, coded_ℕ, coded_list}
use Rattle.base_core.specs.Faults.{risen}

-- which calls fail, how many calls there were, and how many failed
pub record Failing : Type 0 where
  pub fails : List ℕ
  pub calls : ℕ
  pub faults : ℕ

-- whether the next call is one of those that fail
abbrev pub fails_next : Failing → Bool
fails_next f = list_any (λ number. number == risen f.calls 1) f.fails

-- after a call
abbrev pub after_call : Failing → Failing
after_call f = if fails_next f
    then record f { calls = risen f.calls 1; faults = risen f.faults 1 }
    else record f { calls = risen f.calls 1 }

abbrev pub failing_code : Coded Failing
failing_code =
    code_by (List ℕ × (ℕ × ℕ)) (coded× (coded_list coded_ℕ) (coded× coded_ℕ coded_ℕ)) (λ f. (f.fails, (f.calls, f.faults))) (λ p. record { fails = p.0; calls = p.1.0; faults = p.1.1 }) (λ _. refl)
