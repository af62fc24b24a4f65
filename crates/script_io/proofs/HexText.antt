-- The two cases of the text that is written for bytes.
use Rattle.std.proofs.Common.{◌≡◌, ◌≢◌, ℕ, ◌*◌, ◌%◌, ◌<◌, ◌≤◌, Bool, true, false, List, [], ◌∷◌, length, is_some, Some, None, Result, Ok, Err, refl, ap, ◌∙◌, arith}
use Rattle.std.specs.Prelude.{◌↔◌, is_ok, IsOk, IsSome, IsTrue}
use Rattle.std.specs.List.{AllPass}
use Rattle.std.specs.Result.{result_ok}
use Rattle.std.proofs.lemmas.Bool.{ne_eqb, eq-eqb, le-leb, lt-leb}
use Rattle.hex.specs.Hex.{encode_lower, decode_of, is_hex_digit}
use Rattle.hex.specs.declared.error.FromHexError.{FromHexError}
use Rattle.hex.proofs.HexLemmas.{decode_of-ok, decode_of-digits}
use Rattle.std.specs.Str.{bytes_eq}
use Rattle.script_model.specs.Spellings.{hex_text, hex_bytes, at_most, no_bytes}

pub hex_text-none : (bytes : List ℕ) → length bytes ≡ 0 → hex_text bytes ≡ no_bytes
unfolding hex_text
hex_text-none [] e = refl
hex_text-none (x ∷ bytes) e = absurd (omega arith)

pub hex_text-some : (bytes : List ℕ) → length bytes ≢ 0 → hex_text bytes ≡ encode_lower bytes
unfolding hex_text
hex_text-some bytes e = rw (ne_eqb (length bytes) 0 e) refl

-- ---- the bytes that a text writes, at most so many

pub hex_bytes-dash : (text : List ℕ) (most : ℕ) → bytes_eq text no_bytes ≡ true → at_most most (hex_bytes text) ≡ Some []
unfolding hex_bytes
hex_bytes-dash text most e = rw (e, le-leb 0 most (omega arith)) refl

pub hex_bytes-empty : (text : List ℕ) (most : ℕ) → bytes_eq text no_bytes ≡ false → length text ≡ 0 → at_most most (hex_bytes text) ≡ None
unfolding hex_bytes
hex_bytes-empty text most e z = rw (e, eq-eqb (length text) 0 z) refl

-- a text that is not empty and not `-`
plain : (text : List ℕ) → bytes_eq text no_bytes ≡ false → length text ≢ 0 → hex_bytes text ≡ result_ok (decode_of text)
unfolding hex_bytes
plain text e z = rw (e, ne_eqb (length text) 0 z) refl

too_long : (most : ℕ) (text : List ℕ) (r : Result (List ℕ) FromHexError) → decode_of text ≡ r → 2 * most < length text → at_most most (result_ok r) ≡ None
too_long most text (Ok bytes) e h =
    let l = decode_of-ok text bytes e in
    rw (lt-leb (length bytes) most (omega (arith, l.2))) refl
too_long most text (Err f) e h = refl

pub hex_bytes-long : (text : List ℕ) (most : ℕ) → bytes_eq text no_bytes ≡ false → length text ≢ 0 → 2 * most < length text → at_most most (hex_bytes text) ≡ None
hex_bytes-long text most e z h = ap (at_most most) (plain text e z) ∙ too_long most text (decode_of text) refl h

pub hex_bytes-ok : (text : List ℕ) (most : ℕ) (bytes : List ℕ) → bytes_eq text no_bytes ≡ false → length text ≢ 0 → length text ≤ 2 * most → decode_of text ≡ Ok bytes → at_most most (hex_bytes text) ≡ Some bytes
hex_bytes-ok text most bytes e z h d =
    let l = decode_of-ok text bytes d in
    ap (at_most most) (plain text e z ∙ ap result_ok d) ∙ rw (le-leb (length bytes) most (omega (arith, l.2))) refl

pub hex_bytes-some : (text : List ℕ) (most : ℕ) → bytes_eq text no_bytes ≡ false → length text ≢ 0 → length text ≤ 2 * most → IsOk (decode_of text) → IsSome (at_most most (hex_bytes text))
hex_bytes-some text most e z h ok = by_result (decode_of text) refl ok
  where
    by_result : (r : Result (List ℕ) FromHexError) → decode_of text ≡ r → IsOk r → IsSome (at_most most (hex_bytes text))
    by_result (Ok bytes) d ok = ap is_some (hex_bytes-ok text most bytes e z h d)
    by_result (Err f) d ok = absurd cc

pub hex_bytes-none : (text : List ℕ) (most : ℕ) → bytes_eq text no_bytes ≡ false → length text ≢ 0 → ¬ IsOk (decode_of text) → at_most most (hex_bytes text) ≡ None
hex_bytes-none text most e z bad = by_result (decode_of text) refl bad
  where
    by_result : (r : Result (List ℕ) FromHexError) → decode_of text ≡ r → ¬ IsOk r → at_most most (hex_bytes text) ≡ None
    by_result (Ok bytes) d bad = absurd (bad refl)
    by_result (Err f) d bad = ap (at_most most) (plain text e z ∙ ap result_ok d)

-- ---- whether a text is an even number of digits

pub decode_of-pairs : (text : List ℕ) (digits : Bool) → length text % 2 ≡ 0 → IsTrue digits ↔ AllPass is_hex_digit text → IsTrue digits ↔ IsOk (decode_of text)
decode_of-pairs text digits even all = (
  λ h. ap is_ok (decode_of-digits text even (all.0 h)).1,
  λ ok. all.1 (by_result (decode_of text) refl ok),
)
  where
    by_result : (r : Result (List ℕ) FromHexError) → decode_of text ≡ r → IsOk r → AllPass is_hex_digit text
    by_result (Ok bytes) d ok = (decode_of-ok text bytes d).1
    by_result (Err f) d ok = absurd cc
