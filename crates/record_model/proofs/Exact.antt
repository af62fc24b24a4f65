-- Reading a field accepts exactly what is spelled.
use Rattle.std.proofs.Common.{◌≡◌, ℕ, ◌+◌, ◌^◌, ◌<◌, List, ◌++◌, length, Ok, Err, IfOk, refl, sym, ◌∙◌, ap, arith, length-append}
use Rattle.std.specs.Int.{Width}
use Rattle.byte_model.specs.Nibbles.{AreBytes}
use Rattle.byte_model.specs.Borsh.{borsh_bytes, borsh_u32}
use Rattle.record_model.specs.Fields.{Cursor, Read, bytes_at, number_at, vector_at}
use Rattle.record_model.specs.Exact.{ReadsExactly}
use Rattle.record_model.proofs.Steps.{Gives, so_gives, Takes}
use Rattle.record_model.proofs.Fields.{bytes_taken, bytes_again, IsSpelling, number_taken, number_again, four_bytes, vector_taken, vector_again}

abbrev offset_of : {X : Type 0} → Read X → ℕ
offset_of (Ok r) = r.1.at
offset_of (Err e) = 0

-- what fits was taken from the prefix
abbrev pub Took : {X : Type 0} → (X → List ℕ) → (X → Type 0) → Cursor → X × Cursor → Type 0
Took spell Fits c r = Fits r.0 × Takes c (spell r.0) r.1

-- the offset is told by what is read again
pub exact : {X : Type 0} {read : Cursor → Read X} (spell : X → List ℕ) (Fits : X → Type 0) → ((c : Cursor) → AreBytes c.left → Gives (read c) (Took spell Fits c)) → ((x : X) (at : ℕ) (rest : List ℕ) → Fits x → read (record { at = at; left = spell x ++ rest }) ≡ Ok (x, record { at = at + length (spell x); left = rest })) → ReadsExactly read spell Fits
exact {X = X} {read = read} spell Fits taken again = record { found = λ c small. found c (read c) refl (taken c small); again = again }
  where
    found : (c : Cursor) (r : Read X) → read c ≡ r → Gives r (Took spell Fits c) → IfOk r (λ r. Fits r.0 × (c.left ≡ spell r.0 ++ r.1.left) × (r.1.at ≡ c.at + length (spell r.0)))
    found c (Err e) is h = tt
    found c (Ok r) is h =
        let stands : read c ≡ read (record { at = c.at; left = spell r.0 ++ r.1.left }) = ap (λ (left : List ℕ). read (record { at = c.at; left = left })) h.given.1.parts in
        (h.given.0, h.given.1.parts, ap offset_of (sym is ∙ stands ∙ again r.0 c.at r.1.left h.given.0))

pub bytes-exact : (count : ℕ) → ReadsExactly (bytes_at count) (λ bytes. bytes) (λ bytes. length bytes ≡ count)
bytes-exact count = exact (λ bytes. bytes) (λ bytes. length bytes ≡ count)
    (λ c small. so_gives (bytes_taken count c small) (λ r h. (h.count, h.took)))
    (λ bytes at rest is. rw is (bytes_again count bytes at rest is))

pub number-exact : {w : Width} {bits : ℕ} {spell : ℕ → List ℕ} (spelling : IsSpelling w bits spell) → ReadsExactly (number_at w) spell (λ n. n < 2 ^ bits)
number-exact {bits = bits} {spell = spell} spelling = exact spell (λ n. n < 2 ^ bits)
    (λ c small. so_gives (number_taken spelling c small) (λ r h. (h.fits, h.took)))
    (λ n at rest lt. rw (spelling.len n) (number_again spelling n at rest lt))

pub vector-exact : ReadsExactly vector_at borsh_bytes (λ bytes. length bytes < 2 ^ 32)
vector-exact = exact borsh_bytes (λ bytes. length bytes < 2 ^ 32)
    (λ c small. so_gives (vector_taken c small) (λ r h. (h.fits, h.took)))
    (λ bytes at rest lt. vector_again bytes at rest lt ∙ ap (λ (offset : ℕ). Ok (bytes, record { at = offset; left = rest })) (behind at bytes))
  where
    behind : (at : ℕ) (bytes : List ℕ) → at + 4 + length bytes ≡ at + length (borsh_bytes bytes)
    behind at bytes = omega (arith, length-append (borsh_u32 (length bytes)) bytes, four_bytes.len (length bytes))
