-- The decimal digits of a number, written from the last to the first.
use Rattle.std.proofs.Common.{◌≡◌, ℕ, ◌+◌, ◌-◌, ◌/◌, ◌%◌, ◌^◌, ◌<◌, ◌≤◌, List, [], ◌∷◌, ◌++◌, length, drop, set, sym, ap, ◌∙◌, append_assoc, arith}
use Rattle.std.specs.Fmt.{decimal}
use Rattle.std.proofs.lemmas.Fmt.{decimal_digit, decimal_step}
use Rattle.std.proofs.lemmas.List.{drop-set, length-append}

-- one digit more, before those that stand
digit_before : (digits : List ℕ) (start d : ℕ) → 1 ≤ start → start ≤ length digits → drop (start - 1) (set digits (start - 1) d) ≡ d ∷ drop start digits
digit_before digits start d h k = drop-set digits (start - 1) d (omega arith) ∙ ap (λ (i : ℕ). d ∷ drop i digits) (omega arith)

pub room_step : (n room : ℕ) → 10 ≤ n → n < 2 ^ 64 → length (decimal n) ≤ room → length (decimal (n / 10)) + 1 ≤ room
room_step n room h k r = omega (arith, ap length (decimal_step n h k), length-append (decimal (n / 10)) ((48 + n % 10) ∷ []))

pub digits_step : (n start : ℕ) (digits whole : List ℕ) → 10 ≤ n → n < 2 ^ 64 → 1 ≤ start → start ≤ length digits → decimal n ++ drop start digits ≡ whole → decimal (n / 10) ++ drop (start - 1) (set digits (start - 1) (48 + n % 10)) ≡ whole
digits_step n start digits whole h k s t e =
    ap (λ (rest : List ℕ). decimal (n / 10) ++ rest) (digit_before digits start (48 + n % 10) s t)
    ∙ sym (append_assoc (decimal (n / 10)) ((48 + n % 10) ∷ []) (drop start digits))
    ∙ ap (λ (prefix : List ℕ). prefix ++ drop start digits) (sym (decimal_step n h k)) ∙ e

pub room_last : (n room : ℕ) → n < 10 → length (decimal n) ≤ room → 1 ≤ room
room_last n room h r = omega (arith, ap length (decimal_digit n h))

pub digits_last : (n start : ℕ) (digits whole : List ℕ) → n < 10 → 1 ≤ start → start ≤ length digits → decimal n ++ drop start digits ≡ whole → drop (start - 1) (set digits (start - 1) (48 + n)) ≡ whole
digits_last n start digits whole h s t e =
    digit_before digits start (48 + n) s t ∙ ap (λ (prefix : List ℕ). prefix ++ drop start digits) (sym (decimal_digit n h)) ∙ e
