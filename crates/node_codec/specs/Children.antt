-- The children of a branch as they stand in its record.
use Rattle.std.specs.Prelude.{ℕ, List, Option, refl}
use Rattle.std.specs.Coded.{Coded, code_by, coded×, coded_ℕ, coded_list}
use Rattle.record_model.specs.Records.{child_in}

-- sixteen bits, and a digest of 32 bytes for each that is set
pub record Children : Type 0 where
  pub bitmap : ℕ
  pub digests : List ℕ

abbrev pub children_code : Coded Children
children_code = code_by (ℕ × List ℕ) (coded× coded_ℕ (coded_list coded_ℕ)) (λ c. (c.bitmap, c.digests)) (λ p. record { bitmap = p.0; digests = p.1 }) (λ _. refl)

-- the digest at each nibble
abbrev pub children_viewed : Children → ℕ → Option (List ℕ)
children_viewed kids i = child_in kids.bitmap kids.digests i
