-- How byte strings and numbers are written in scripts and replies: two digits for each byte, and decimal digits. Which byte strings are keys, values and ids. All of it is this project's own.
use Rattle.std.specs.Prelude.{ℕ, ◌*◌, ◌^◌, ◌==◌, ◌&&◌, nat_le, nat_lt, Bool, List, [], length, codes, Option, None, Some, if◌then◌else◌}
use Rattle.std.specs.List.{list_all}
use Rattle.std.specs.Result.{result_ok}
use Rattle.std.specs.Str.{bytes_eq}
use Rattle.std.specs.Str.Parse.{digits_value}
use Rattle.hex.specs.Hex.{decode_of, encode_lower}
use Rattle.byte_model.specs.Node.{digest_width, longest_value}
use Rattle.trie_model.specs.State.{longest_key}

-- no bytes are written `-`
abbrev pub no_bytes : List ℕ
no_bytes = codes "-"

-- The bytes that a text writes: those of its pairs of digits, upper or lower case, where it has a pair and nothing else, or none where it is `-`.
unfoldable pub hex_bytes : List ℕ → Option (List ℕ)
hex_bytes text = if bytes_eq text no_bytes then Some [] else if length text == 0 then None else result_ok (decode_of text)

-- the text by which some bytes are written, with small letters
unfoldable pub hex_text : List ℕ → List ℕ
hex_text bytes = if length bytes == 0 then no_bytes else encode_lower bytes

-- bytes, if they are at most so many
abbrev pub at_most : ℕ → Option (List ℕ) → Option (List ℕ)
at_most limit None = None
at_most limit (Some bytes) = if nat_le (length bytes) limit then Some bytes else None

-- the key and the value that a text writes
unfoldable pub key_of : List ℕ → Option (List ℕ)
key_of text = at_most longest_key (hex_bytes text)

unfoldable pub value_of : List ℕ → Option (List ℕ)
value_of text = at_most longest_value (hex_bytes text)

-- the id that a text writes: as many bytes as a digest has, two digits for each
unfoldable pub id_of : List ℕ → Option (List ℕ)
id_of text = if length text == 2 * digest_width then result_ok (decode_of text) else None

-- ---- numbers

abbrev pub is_decimal_digit : ℕ → Bool
is_decimal_digit byte = nat_le 48 byte && nat_le byte 57

-- the most digits of a number
abbrev pub most_digits : ℕ
most_digits = 20

-- The number that a text writes in decimal digits, of which some may be zeros in front. It has eight bytes at most.
unfoldable pub number_of : List ℕ → Option ℕ
number_of text =
    if nat_le 1 (length text) && nat_le (length text) most_digits && list_all is_decimal_digit text && nat_lt (digits_value 10 text) (2 ^ 64)
    then Some (digits_value 10 text) else None
