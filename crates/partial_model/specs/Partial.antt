-- Partial states (this project): some texts, each once and in the order of their bytes. Which bytes spell one (Borsh 1.0), and what is read from any bytes.
use Rattle.std.specs.Prelude.{ℕ, zero, suc, ◌^◌, ◌<◌, ◌==◌, List, [], ◌∷◌, ◌++◌, length, Option, None, Some, Result, Ok, Err, if◌then◌else◌}
use Rattle.std.specs.List.{AllByRecursion}
use Rattle.std.specs.Int.{w8, w32}
use Rattle.sha2.specs.Sha256.{sha256}
use Rattle.byte_model.specs.Nibbles.{AreBytes}
use Rattle.byte_model.specs.Borsh.{borsh_u8, borsh_u32, borsh_bytes}
use Rattle.record_model.specs.Fields.{FrameFault, ordinal, Cursor, Read, start_of, ◌>>=◌, number_at, vector_at, end_of}
use Rattle.partial_model.specs.Texts.{Rise, first_fall, least_clash}

-- ---- from texts to bytes

-- one text behind the other, each as a vector of bytes
unfoldable pub spelled_texts : List (List ℕ) → List ℕ
spelled_texts [] = []
spelled_texts (t ∷ ts) = borsh_bytes t ++ spelled_texts ts

-- the byte 0, how many texts there are, and the texts
unfoldable pub spelled_partial : List (List ℕ) → List ℕ
spelled_partial texts = borsh_u8 0 ++ borsh_u32 (length texts) ++ spelled_texts texts

-- byte strings whose number and lengths fit their fields
pub record AreTexts (texts : List (List ℕ)) : Type 0 where
  pub few : length texts < 2 ^ 32
  pub each : AllByRecursion (λ t. AreBytes t × (length t < 2 ^ 32)) texts

pub record IsPartial (texts : List (List ℕ)) : Type 0 where
  pub texts_fit : AreTexts texts
  pub rise : Rise texts

-- ---- from bytes to texts

-- Why bytes are no partial state, in the order of the tests: what is wrong with the layout; the place, counted from 0, of the first text that is not above the one before it; the least digest that two texts share, or the zero one where a text has it.
pub data PartialFault : Type 0 where
  frame : FrameFault → PartialFault
  order : (place : ℕ) → PartialFault
  clash : (digest : List ℕ) → PartialFault

-- so many vectors, one after the other
unfoldable pub texts_at : ℕ → Cursor → Read (List (List ℕ))
texts_at zero c = Ok ([], c)
texts_at (suc n) c = do
  first ← vector_at c
  others ← texts_at n first.1
  Ok (first.0 ∷ others.0, others.1)

-- a number, and so many vectors
unfoldable pub counted_at : Cursor → Read (List (List ℕ))
counted_at c = do
  count ← number_at w32 c
  texts_at count.0 count.1

-- the texts in any order, behind a first byte that is 0
unfoldable pub listed_at : Cursor → Read (List (List ℕ))
listed_at c = do
  version ← number_at w8 c
  if version.0 == 0 then counted_at version.1 else Err (ordinal c.at)

abbrev pub framed : {X : Type 0} → Result X FrameFault → Result X PartialFault
framed (Ok x) = Ok x
framed (Err e) = Err (frame e)

-- the tests on texts, by what they find
abbrev pub judged : List (List ℕ) → Option ℕ → Option (List ℕ) → Result (List (List ℕ)) PartialFault
judged texts (Some place) digest = Err (order place)
judged texts None (Some digest) = Err (clash digest)
judged texts None None = Ok texts

abbrev pub tested : List (List ℕ) → Result (List (List ℕ)) PartialFault
tested texts = judged texts (first_fall texts) (least_clash sha256 texts)

-- a partial state with whatever stands behind it
unfoldable pub partial_at : Cursor → Result (List (List ℕ) × Cursor) PartialFault
partial_at c = do
  listed ← framed (listed_at c)
  texts ← tested listed.0
  Ok (texts, listed.1)

-- All of some bytes. That nothing is left is a test on the layout, and stands before those on the texts.
unfoldable pub partial_in : List ℕ → Result (List (List ℕ)) PartialFault
partial_in bytes = do
  listed ← framed (listed_at (start_of bytes))
  texts ← framed (end_of listed.0 listed.1)
  tested texts
