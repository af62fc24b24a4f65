-- Why a line is not read, told from its length and from where it begins.
use Rattle.std.proofs.Common.{◌≡◌, ℕ, ◌+◌, ◌<◌, ◌≤◌, ◌&&◌, false, leb, ltb, Some, None, refl, sym, ◌∙◌, ◌⊎◌, inl, inr, arith, ⊎_elim}
use Rattle.std.proofs.lemmas.Bool.{lt-ltb, le-ltb, le-leb, lt-leb, cases_lt, and_left, and_right}
use Rattle.script_model.specs.Lines.{LineFault, long, past, line_fault, longest_line, longest_input}

-- the line has no byte too many, or the end of what an input may have comes before that byte
abbrev pub IsNotLong : (before length : ℕ) → Type 0
IsNotLong before length = (length ≤ longest_line) ⊎ (longest_input < before + longest_line)

pub fault-long : (before length feed : ℕ) → longest_line < length → before + longest_line ≤ longest_input → line_fault before length feed ≡ Some long
unfolding line_fault
fault-long before length feed h k = rw (lt-ltb longest_line length h, le-leb (before + longest_line) longest_input k) refl

not_long : (before length : ℕ) → IsNotLong before length → (ltb longest_line length && leb (before + longest_line) longest_input) ≡ false
not_long before length (inl h) = and_left _ _ (le-ltb longest_line length h)
not_long before length (inr h) = and_right _ _ (lt-leb (before + longest_line) longest_input h)

pub fault-past : (before length feed : ℕ) → IsNotLong before length → longest_input < before + length + feed → line_fault before length feed ≡ Some past
unfolding line_fault
fault-past before length feed h k = rw (not_long before length h, lt-ltb longest_input (before + length + feed) k) refl

pub fault-none : (before length feed : ℕ) → IsNotLong before length → before + length + feed ≤ longest_input → line_fault before length feed ≡ None
unfolding line_fault
fault-none before length feed h k = rw (not_long before length h, le-ltb longest_input (before + length + feed) k) refl

-- which of the three it is
pub data Judgement (before length feed : ℕ) : Type 0 where
  is_long : longest_line < length → before + longest_line ≤ longest_input → Judgement before length feed
  is_past : IsNotLong before length → longest_input < before + length + feed → Judgement before length feed
  is_read : IsNotLong before length → before + length + feed ≤ longest_input → Judgement before length feed

past_or_read : (before length feed : ℕ) → IsNotLong before length → Judgement before length feed
past_or_read before length feed h = ⊎_elim (λ k. is_past h k) (λ k. is_read h k) (cases_lt longest_input (before + length + feed))

judgement : (before length feed : ℕ) → Judgement before length feed
judgement before length feed =
    ⊎_elim (λ h. ⊎_elim (λ k. past_or_read before length feed (inr k)) (λ k. is_long h k) (cases_lt longest_input (before + longest_line))) (λ h. past_or_read before length feed (inl h)) (cases_lt longest_line length)

-- a line that can be read is within both limits
pub read_bounds : (before length feed : ℕ) → line_fault before length feed ≡ None → (length ≤ longest_line) × (before + length + feed ≤ longest_input)
read_bounds before length feed e = by_judgement (judgement before length feed)
  where
    by_judgement : Judgement before length feed → (length ≤ longest_line) × (before + length + feed ≤ longest_input)
    by_judgement (is_long h k) = absurd (cc (fault-long before length feed h k))
    by_judgement (is_past h k) = absurd (cc (fault-past before length feed h k))
    by_judgement (is_read h k) = (⊎_elim (λ s. s) (λ s. omega arith) h, k)

-- what is wrong with the prefix of a line is wrong with the line
pub fault_grows : (before length more feed : ℕ) (fault : LineFault) → length ≤ more → line_fault before length 0 ≡ Some fault → line_fault before more feed ≡ Some fault
fault_grows before length more feed fault le e = by_judgement (judgement before length 0)
  where
    by_judgement : Judgement before length 0 → line_fault before more feed ≡ Some fault
    by_judgement (is_long h k) = fault-long before more feed (omega arith) k ∙ sym (fault-long before length 0 h k) ∙ e
    by_judgement (is_past h k) = fault-past before more feed (inr (⊎_elim (λ s. omega arith) (λ s. s) h)) (omega arith) ∙ sym (fault-past before length 0 h k) ∙ e
    by_judgement (is_read h k) = absurd (cc (fault-none before length 0 h k))
