-- A field that is read is the field that was spelled, and what was spelled is read again.
use Rattle.std.proofs.Common.{◌≡◌, ℕ, zero, suc, ◌+◌, ◌*◌, ◌^◌, ◌<◌, false, List, [], ◌∷◌, ◌++◌, length, take, drop, get_or, Ok, refl, sym, ◌∙◌, subst, arith, take-append-drop, length-take, length-append, append_assoc}
use Rattle.std.specs.Prelude.{nat_lt}
use Rattle.std.specs.Int.{Width, w8, w16, w32, w64, byte_len, from_le_bytes}
use Rattle.std.proofs.lemmas.Bool.{ltb-false, le-ltb}
use Rattle.std.proofs.lemmas.List.{take_at, drop_at}
use Rattle.std.proofs.lemmas.Nat.{le_bytes_2, le_bytes_4, le_bytes_8, from_le_bytes-to_le_bytes_2, from_le_bytes-to_le_bytes_4, from_le_bytes-to_le_bytes_8}
use Rattle.byte_model.specs.Nibbles.{AreBytes}
use Rattle.byte_model.specs.Borsh.{borsh_u8, borsh_u16, borsh_u32, borsh_u64, borsh_bytes}
use Rattle.record_model.specs.Fields.{Cursor, bytes_at, number_at, vector_at, digests_at}
use Rattle.record_model.proofs.Digests.{digests_at-is}
use Rattle.record_model.proofs.Steps.{Gives, gives, and_then, unless, so_gives, Takes, Takes-then}

-- ---- bytes

AreBytes-drop : (n : ℕ) (bytes : List ℕ) → AreBytes bytes → AreBytes (drop n bytes)
AreBytes-drop zero bytes small = small
AreBytes-drop (suc n) [] small = tt
AreBytes-drop (suc n) (byte ∷ bytes) small = AreBytes-drop n bytes small.1

AreBytes-take : (n : ℕ) (bytes : List ℕ) → AreBytes bytes → AreBytes (take n bytes)
AreBytes-take zero bytes small = tt
AreBytes-take (suc n) [] small = tt
AreBytes-take (suc n) (byte ∷ bytes) small = (small.0, AreBytes-take n bytes small.1)

byte_at : (bytes : List ℕ) → AreBytes bytes → (i : ℕ) → get_or bytes i 0 < 256
byte_at [] small i = omega arith
byte_at (byte ∷ bytes) small zero = small.0
byte_at (byte ∷ bytes) small (suc i) = byte_at bytes small.1 i

-- so many bytes were taken
pub record TakesBytes (n : ℕ) (c : Cursor) (read : List ℕ × Cursor) : Type 0 where
  pub took : Takes c read.0 read.1
  pub count : length read.0 ≡ n
  pub small : AreBytes read.0

pub bytes_taken : (n : ℕ) (c : Cursor) → AreBytes c.left → Gives (bytes_at n c) (TakesBytes n c)
unfolding bytes_at
bytes_taken n c small = unless (nat_lt (length c.left) n) _ _ (λ enough. record {
  took = record { parts = sym (take-append-drop n c.left); rest = AreBytes-drop n c.left small };
  count = omega (arith, length-take n c.left, ltb-false _ _ enough);
  small = AreBytes-take n c.left small;
})

-- the offset behind a field of so many bytes
abbrev pub behind : ℕ → ℕ → List ℕ → Cursor
behind at n rest = record { at = at + n; left = rest }

pub bytes_again : (n : ℕ) (bytes : List ℕ) (at : ℕ) (rest : List ℕ) → length bytes ≡ n → bytes_at n (record { at = at; left = bytes ++ rest }) ≡ Ok (bytes, behind at n rest)
unfolding bytes_at
bytes_again n bytes at rest count =
    let enough : nat_lt (length (bytes ++ rest)) n ≡ false = le-ltb _ _ (omega (arith, length-append bytes rest)) in
    rw (enough, take_at bytes rest n count, drop_at bytes rest n count) refl

-- ---- numbers

-- numbers of so many bits are spelled in the bytes of a width
pub record IsSpelling (w : Width) (bits : ℕ) (spell : ℕ → List ℕ) : Type 0 where
  pub len : (n : ℕ) → length (spell n) ≡ byte_len w
  pub back : (bytes : List ℕ) → length bytes ≡ byte_len w → AreBytes bytes → spell (from_le_bytes w bytes) ≡ bytes
  pub again : (n : ℕ) → n < 2 ^ bits → from_le_bytes w (spell n) ≡ n
  pub below : (bytes : List ℕ) → AreBytes bytes → from_le_bytes w bytes < 2 ^ bits

pub one_byte : IsSpelling w8 8 borsh_u8
one_byte = record { len = λ n. refl; back = back; again = λ n lt. refl; below = below }
  where
    back : (bytes : List ℕ) → length bytes ≡ 1 → AreBytes bytes → borsh_u8 (from_le_bytes w8 bytes) ≡ bytes
    back [] len small = absurd (omega arith)
    back (byte ∷ []) len small = refl
    back (byte ∷ next ∷ bytes) len small = absurd (omega arith)

    below : (bytes : List ℕ) → AreBytes bytes → from_le_bytes w8 bytes < 2 ^ 8
    below [] small = omega arith
    below (byte ∷ bytes) small = small.0

pub two_bytes : IsSpelling w16 16 borsh_u16
unfolding borsh_u16
two_bytes = record {
  len = λ n. refl;
  back = λ bytes len small. le_bytes_2 bytes _ len (byte_at bytes small) refl;
  again = λ n lt. from_le_bytes-to_le_bytes_2 n lt;
  below = λ bytes small. let b = byte_at bytes small in omega (arith, b 0, b 1);
}

pub four_bytes : IsSpelling w32 32 borsh_u32
unfolding borsh_u32
four_bytes = record {
  len = λ n. refl;
  back = λ bytes len small. le_bytes_4 bytes _ len (byte_at bytes small) refl;
  again = λ n lt. from_le_bytes-to_le_bytes_4 n lt;
  below = λ bytes small. let b = byte_at bytes small in omega (arith, b 0, b 1, b 2, b 3);
}

pub eight_bytes : IsSpelling w64 64 borsh_u64
unfolding borsh_u64
eight_bytes = record {
  len = λ n. refl;
  back = λ bytes len small. le_bytes_8 bytes _ len (byte_at bytes small) refl;
  again = λ n lt. from_le_bytes-to_le_bytes_8 n lt;
  below = λ bytes small. let b = byte_at bytes small in omega (arith, b 0, b 1, b 2, b 3, b 4, b 5, b 6, b 7);
}

pub record TakesNumber (bits : ℕ) (spell : ℕ → List ℕ) (c : Cursor) (read : ℕ × Cursor) : Type 0 where
  pub took : Takes c (spell read.0) read.1
  pub fits : read.0 < 2 ^ bits

pub number_taken : {w : Width} {bits : ℕ} {spell : ℕ → List ℕ} (spelling : IsSpelling w bits spell) (c : Cursor) → AreBytes c.left → Gives (number_at w c) (TakesNumber bits spell c)
unfolding number_at
number_taken {w = w} {bits = bits} {spell = spell} spelling c small = and_then (bytes_taken (byte_len w) c small) (λ bytes h. gives _ (record {
  took = subst (λ (text : List ℕ). Takes c text bytes.1) (sym (spelling.back bytes.0 h.count h.small)) h.took;
  fits = spelling.below bytes.0 h.small;
}))

pub number_again : {w : Width} {bits : ℕ} {spell : ℕ → List ℕ} (spelling : IsSpelling w bits spell) (n at : ℕ) (rest : List ℕ) → n < 2 ^ bits → number_at w (record { at = at; left = spell n ++ rest }) ≡ Ok (n, behind at (byte_len w) rest)
unfolding number_at
number_again {w = w} {spell = spell} spelling n at rest lt = rw (bytes_again (byte_len w) (spell n) at rest (spelling.len n), spelling.again n lt) refl

-- ---- vectors

pub record TakesVector (c : Cursor) (read : List ℕ × Cursor) : Type 0 where
  pub took : Takes c (borsh_bytes read.0) read.1
  pub fits : length read.0 < 2 ^ 32
  pub small : AreBytes read.0

pub vector_taken : (c : Cursor) → AreBytes c.left → Gives (vector_at c) (TakesVector c)
unfolding vector_at
vector_taken c small = and_then (number_taken four_bytes c small) (λ count h. so_gives (bytes_taken count.0 count.1 h.took.rest) (λ bytes k. record {
  took = subst (λ n. Takes c (borsh_u32 n ++ bytes.0) bytes.1) (sym k.count) (Takes-then h.took k.took);
  fits = omega (arith, k.count, h.fits);
  small = k.small;
}))

pub vector_again : (bytes : List ℕ) (at : ℕ) (rest : List ℕ) → length bytes < 2 ^ 32 → vector_at (record { at = at; left = borsh_bytes bytes ++ rest }) ≡ Ok (bytes, behind (at + 4) (length bytes) rest)
unfolding vector_at
vector_again bytes at rest lt =
    rw (append_assoc (borsh_u32 (length bytes)) bytes rest, number_again four_bytes (length bytes) at (bytes ++ rest) lt) (bytes_again (length bytes) bytes (at + 4) rest refl)

-- ---- digests

pub record TakesDigests (n : ℕ) (c : Cursor) (read : List ℕ × Cursor) : Type 0 where
  pub took : Takes c read.0 read.1
  pub count : length read.0 ≡ 32 * n

pub digests_taken : (n : ℕ) (c : Cursor) → AreBytes c.left → Gives (digests_at n c) (TakesDigests n c)
digests_taken n c small = subst (λ read. Gives read (TakesDigests n c)) (sym (digests_at-is n c)) (unless (nat_lt (length c.left) (32 * n)) _ _ (λ enough. record {
  took = record { parts = sym (take-append-drop (32 * n) c.left); rest = AreBytes-drop (32 * n) c.left small };
  count = omega (arith, length-take (32 * n) c.left, ltb-false _ _ enough);
}))

pub digests_again : (n : ℕ) (digests : List ℕ) (at : ℕ) (rest : List ℕ) → length digests ≡ 32 * n → digests_at n (record { at = at; left = digests ++ rest }) ≡ Ok (digests, behind at (32 * n) rest)
digests_again n digests at rest count =
    let enough : nat_lt (length (digests ++ rest)) (32 * n) ≡ false = le-ltb _ _ (omega (arith, length-append digests rest)) in
    digests_at-is n (record { at = at; left = digests ++ rest }) ∙ rw (enough, take_at digests rest (32 * n) count, drop_at digests rest (32 * n) count) refl
