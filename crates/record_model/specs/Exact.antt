-- What it means that a reader of a field reads exactly what is spelled.
use Rattle.std.specs.Prelude.{◌≡◌, ℕ, ◌+◌, List, ◌++◌, length, Ok, IfOk}
use Rattle.byte_model.specs.Nibbles.{AreBytes}
use Rattle.record_model.specs.Fields.{Cursor, Read}

-- What was read fits the field, its spelling and what is left are the bytes that were left before, and the offset moved by the length of the spelling. And a spelling of what fits is read, whatever stands behind it.
pub record ReadsExactly {X : Type 0} (read : Cursor → Read X) (spell : X → List ℕ) (Fits : X → Type 0) : Type 0 where
  pub found : (c : Cursor) → AreBytes c.left → IfOk (read c) (λ r. Fits r.0 × (c.left ≡ spell r.0 ++ r.1.left) × (r.1.at ≡ c.at + length (spell r.0)))
  pub again : (x : X) (at : ℕ) (rest : List ℕ) → Fits x → read (record { at = at; left = spell x ++ rest }) ≡ Ok (x, record { at = at + length (spell x); left = rest })
