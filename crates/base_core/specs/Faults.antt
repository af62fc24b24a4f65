-- Objects of the outside count their own failures, so that a caller can't claim one.
use Rattle.std.specs.Prelude.{◌≡◌, ℕ, ◌+◌, ◌-◌, ◌^◌, ◌≤◌, min, max, Result, OnOk, OnErr}

-- the count at which it stays
abbrev pub most_faults : ℕ
most_faults = 2 ^ 64 - 1

-- a count that is n higher, up to its end
abbrev pub risen : ℕ → ℕ → ℕ
risen count n = max count (min (count + n) most_faults)

-- one more failure was counted, or the count has come to its end
abbrev pub Rose : ℕ → ℕ → Type 0
Rose before now = min (before + 1) most_faults ≤ now

-- The count of a call whose only error is a fault: it is one higher where the call failed, and else the same.
pub record IsCounted {T E : Type 0} (before now : ℕ) (result : Result T E) : Type 0 where
  pub same : OnOk result (now ≡ before)
  pub rose : OnErr result (now ≡ risen before 1)

-- How a call ended: with what it is for, with a refusal by a test of its own, by a fault of the object behind it, or for want of memory.
pub data Ended : Type 0 where
  done : Ended
  refused : Ended
  failed : Ended
  short_of_memory : Ended

-- the count after a call that ended so
abbrev pub faults_after : Ended → ℕ → ℕ
faults_after done faults = faults
faults_after refused faults = faults
faults_after failed faults = risen faults 1
faults_after short_of_memory faults = faults
