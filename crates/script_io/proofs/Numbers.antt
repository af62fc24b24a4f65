-- Numbers in decimal, digit by digit.
use Rattle.std.proofs.Common.{◌≡◌, ◌≢◌, ℕ, ◌+◌, ◌-◌, ◌*◌, ◌^◌, ◌<◌, ◌≤◌, ◌&&◌, Bool, true, false, cond, leb, ltb, List, length, take, get_or, Option, Some, None, refl, sym, ap, ◌∙◌, arith}
use Rattle.std.specs.Char.{digit_value}
use Rattle.std.specs.List.{list_all}
use Rattle.std.specs.Str.Parse.{digits_value}
use Rattle.std.proofs.lemmas.Bool.{and_left, and_right, and_parts, and_from, le-ltb, le-leb, lt-leb, lt-ltb, leb-true, ltb-true, ltb-false}
use Rattle.std.proofs.lemmas.Int.Digits.{digits_value_more}
use Rattle.std.proofs.lemmas.List.{take_all}
use Rattle.std.proofs.lemmas.List.Folds.{list_all_at, list_all_more}
use Rattle.std.proofs.lemmas.Str.{digit_value_digit}
use Rattle.std.proofs.lemmas.Str.Parse.{digits_value-take-le}
use Rattle.script_model.specs.Spellings.{is_decimal_digit, most_digits, number_of}

-- ---- by the tests

abbrev has_length : List ℕ → Bool
has_length text = leb 1 (length text) && leb (length text) most_digits

abbrev is_number : List ℕ → Bool
is_number text = has_length text && list_all is_decimal_digit text && ltb (digits_value 10 text) (2 ^ 64)

number_by : (text : List ℕ) (b : Bool) → is_number text ≡ b → number_of text ≡ cond b (Some (digits_value 10 text)) None
unfolding number_of
number_by text b e = ap (λ t. cond t (Some (digits_value 10 text)) None) e

no_number : (text : List ℕ) → (has_length text && list_all is_decimal_digit text) ≡ false → number_of text ≡ None
no_number text e = number_by text false (and_left (has_length text && list_all is_decimal_digit text) (ltb (digits_value 10 text) (2 ^ 64)) e)

pub number_of-empty : (text : List ℕ) → length text ≡ 0 → number_of text ≡ None
number_of-empty text h = no_number text (and_left (has_length text) _ (and_left (leb 1 (length text)) (leb (length text) most_digits) (lt-leb 1 (length text) (omega arith))))

pub number_of-long : (text : List ℕ) → most_digits < length text → number_of text ≡ None
number_of-long text h = no_number text (and_left (has_length text) _ (and_right (leb 1 (length text)) (leb (length text) most_digits) (lt-leb (length text) most_digits h)))

not_digit : (text : List ℕ) (i digit : ℕ) → i < length text → get_or text i 0 ≡ digit → is_decimal_digit digit ≡ false → number_of text ≡ None
not_digit text i digit lt at e = no_number text (and_right (has_length text) _ (list_all_at is_decimal_digit text i 0 lt (ap is_decimal_digit at ∙ e)))

too_large : (text : List ℕ) → 2 ^ 64 ≤ digits_value 10 text → number_of text ≡ None
too_large text h = number_by text false (and_right (has_length text && list_all is_decimal_digit text) (ltb (digits_value 10 text) (2 ^ 64)) (le-ltb (digits_value 10 text) (2 ^ 64) h))

-- ---- digit by digit

-- the first digits of a text write this number, and it has eight bytes at most
pub record Writes (text : List ℕ) (count number : ℕ) : Type 0 where
  pub digits : list_all is_decimal_digit (take count text) ≡ true
  pub value : number ≡ digits_value 10 (take count text)
  pub fits : number < 2 ^ 64

pub Writes-none : (text : List ℕ) → Writes text 0 0
Writes-none text = record { digits = refl; value = refl; fits = omega arith }

-- a number with one digit behind it, if there is room for it
abbrev with_digit : (number digit : ℕ) → Option ℕ
with_digit number digit = cond (is_decimal_digit digit && ltb (number * 10 + (digit - 48)) (2 ^ 64)) (Some (number * 10 + (digit - 48))) None

digit_value-decimal : (digit : ℕ) → is_decimal_digit digit ≡ true → digit_value digit ≡ digit - 48
digit_value-decimal digit e =
    let p = and_parts (leb 48 digit) (leb digit 57) e in
    omega (arith, digit_value_digit digit (leb-true 48 digit p.0, leb-true digit 57 p.1))

value_more : (text : List ℕ) (count number digit : ℕ) → count < length text → get_or text count 0 ≡ digit → is_decimal_digit digit ≡ true → Writes text count number → digits_value 10 (take (count + 1) text) ≡ number * 10 + (digit - 48)
value_more text count number digit lt at e w =
    digits_value_more 10 text count lt ∙ ap (λ v. v * 10 + digit_value (get_or text count 0)) (sym w.value) ∙ ap (λ v. number * 10 + v) (ap digit_value at ∙ digit_value-decimal digit e)

taken : (b : Bool) (n more : ℕ) → Some more ≡ cond b (Some n) None → (b ≡ true) × (more ≡ n)
taken true n more e = (refl, cc)
taken false n more e = absurd cc

pub Writes-more : (text : List ℕ) (count number digit more : ℕ) → count < length text → get_or text count 0 ≡ digit → Some more ≡ with_digit number digit → Writes text count number → Writes text (count + 1) more
Writes-more text count number digit more lt at e w =
    let t = taken (is_decimal_digit digit && ltb (number * 10 + (digit - 48)) (2 ^ 64)) (number * 10 + (digit - 48)) more e in
    let tests = and_parts (is_decimal_digit digit) (ltb (number * 10 + (digit - 48)) (2 ^ 64)) t.0 in
    record {
      digits = list_all_more is_decimal_digit text count 0 lt ∙ and_from (list_all is_decimal_digit (take count text)) (is_decimal_digit (get_or text count 0)) w.digits (ap is_decimal_digit at ∙ tests.0);
      value = t.1 ∙ sym (value_more text count number digit lt at tests.0 w);
      fits = omega (arith, t.1, ltb-true (number * 10 + (digit - 48)) (2 ^ 64) tests.1);
    }

-- the next byte is no digit, or the number has no room for it
pub Writes-stops : (text : List ℕ) (count number digit : ℕ) → count < length text → get_or text count 0 ≡ digit → None ≡ with_digit number digit → Writes text count number → number_of text ≡ None
Writes-stops text count number digit lt at e w = by_digit (is_decimal_digit digit) (ltb (number * 10 + (digit - 48)) (2 ^ 64)) refl refl e
  where
    by_digit : (a b : Bool) → is_decimal_digit digit ≡ a → ltb (number * 10 + (digit - 48)) (2 ^ 64) ≡ b → None ≡ cond (a && b) (Some (number * 10 + (digit - 48))) None → number_of text ≡ None
    by_digit false b f g h = not_digit text count digit lt at f
    by_digit true false f g h =
        let large = ltb-false (number * 10 + (digit - 48)) (2 ^ 64) g in
        too_large text (omega (arith, large, value_more text count number digit lt at f w, digits_value-take-le 10 text (count + 1) (omega arith)))
    by_digit true true f g h = absurd cc

pub Writes-all : (text : List ℕ) (count number : ℕ) → length text ≢ 0 → length text ≤ most_digits → length text ≤ count → Writes text count number → number_of text ≡ Some number
Writes-all text count number some short all w =
    let whole = take_all count text all in
    let value : number ≡ digits_value 10 text = w.value ∙ ap (digits_value 10) whole in
    let lengths = and_from (leb 1 (length text)) (leb (length text) most_digits) (le-leb 1 (length text) (omega arith)) (le-leb (length text) most_digits short) in
    let digits = and_from (has_length text) (list_all is_decimal_digit text) lengths (ap (list_all is_decimal_digit) (sym whole) ∙ w.digits) in
    number_by text true (and_from (has_length text && list_all is_decimal_digit text) (ltb (digits_value 10 text) (2 ^ 64)) digits (lt-ltb (digits_value 10 text) (2 ^ 64) (omega (arith, value, w.fits)))) ∙ ap Some (sym value)
