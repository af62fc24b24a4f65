-- Counts of faults, and calls that fail by their numbers.
use Rattle.std.proofs.Common.{◌≡◌, ℕ, ◌≤◌, ◌↔◌, Bool, true, false, Result, Ok, Err, IsErr, IsTrue, subst, sym, refl, arith}
use Rattle.std.specs.Prelude.{if◌then◌else◌}
use Rattle.base_core.specs.Faults.{Rose, risen, IsCounted, Ended, done, refused, failed, short_of_memory, faults_after}
use Rattle.base_core.specs.Failing.{Failing, fails_next, after_call}

pub Rose-risen : (before now : ℕ) → now ≡ risen before 1 → Rose before now
Rose-risen before now e = omega (arith, e)

-- a count that goes on from one that was higher, or that rose
pub no_fall : {T E : Type 0} (before now : ℕ) (result : Result T E) → IsCounted before now result → before ≤ now
no_fall before now (Ok x) counted = omega (arith, counted.same)
no_fall before now (Err e) counted = omega (arith, counted.rose)

pub no_fall-after : (ended : Ended) (faults : ℕ) → faults ≤ faults_after ended faults
no_fall-after done faults = omega arith
no_fall-after refused faults = omega arith
no_fall-after failed faults = omega arith
no_fall-after short_of_memory faults = omega arith

-- ---- calls that fail by their numbers

module _ (f : Failing) where
  abbrev after_test : Bool → Failing
  after_test b = if b then record f { calls = risen f.calls 1; faults = risen f.faults 1 } else record f { calls = risen f.calls 1 }

  pub faults-failed : fails_next f ≡ true → (after_call f).faults ≡ risen f.faults 1
  faults-failed e = subst (λ b. (after_test b).faults ≡ risen f.faults 1) (sym e) refl

  pub faults-passed : fails_next f ≡ false → (after_call f).faults ≡ f.faults
  faults-passed e = subst (λ b. (after_test b).faults ≡ f.faults) (sym e) refl

pub IsCounted-call : {T E : Type 0} (f : Failing) (result : Result T E) → (IsErr result ↔ IsTrue (fails_next f)) → IsCounted f.faults (after_call f).faults result
IsCounted-call f (Ok x) fails = record { same = go (fails_next f) refl; rose = tt }
  where
    go : (b : Bool) → fails_next f ≡ b → (after_call f).faults ≡ f.faults
    go true e = absurd (cc (fails.1 e))
    go false e = faults-passed f e
IsCounted-call f (Err e) fails = record { same = tt; rose = faults-failed f (fails.0 refl) }
