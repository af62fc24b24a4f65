-- Where a line is cut, at the first byte of a kind.
use Rattle.std.proofs.Common.{◌≡◌, ℕ, zero, suc, ◌+◌, ◌-◌, ◌<◌, ◌≤◌, Bool, true, false, not, ◌||◌, cond, ltb, List, [], ◌∷◌, length, take, drop, Some, None, refl, sym, ap, ◌∙◌, arith}
use Rattle.std.specs.Prelude.{position}
use Rattle.std.specs.List.{slice_split, position_or_len, before_first, after_first, list_any, All}
use Rattle.std.proofs.lemmas.Bool.{ltb-false, lt-ltb, le-ltb}
use Rattle.std.proofs.lemmas.List.{take_rest, length-drop}
use Rattle.std.proofs.lemmas.List.Elements.{All-from_get_or}
use Rattle.std.proofs.lemmas.List.Folds.{list_any_at, list_any_none}
use Rattle.std.proofs.lemmas.List.Quantifiers.{position-Some}
use Rattle.std.proofs.lemmas.List.Splits.{slice_split_none, slice_split_first}
use Rattle.std.proofs.lemmas.List.Sums.{fails_before_first, position_or_len_is}

not_found : (b : Bool) (n : ℕ) → cond b (Some n) None ≡ None → b ≡ false
not_found true n e = absurd cc
not_found false n e = refl

pub past_end : (p : ℕ → Bool) (xs : List ℕ) → position p xs ≡ None → length xs ≤ position_or_len p xs
past_end p xs e = ltb-false _ _ (not_found (ltb (position_or_len p xs) (length xs)) (position_or_len p xs) e)

pub at_position : (p : ℕ → Bool) (xs : List ℕ) (i : ℕ) → position p xs ≡ Some i → (position_or_len p xs ≡ i) × (i < length xs)
at_position p xs i e = let s = position-Some p xs i 0 e in (position_or_len_is p xs i 0 (omega (arith, s.0)) s.2 (λ _. s.1), s.0)

-- an element passes where a place of one is found
pub list_any-at_position : (p : ℕ → Bool) (xs : List ℕ) (i : ℕ) → position p xs ≡ Some i → list_any p xs ≡ true
list_any-at_position p xs i e = let s = position-Some p xs i 0 e in list_any_at p xs i 0 s.0 s.1

none_before : (p : ℕ → Bool) (xs : List ℕ) → position p xs ≡ None → All (λ x. p x ≡ false) xs
none_before p xs e = let past = past_end p xs e in All-from_get_or (λ x. p x ≡ false) xs 0 (λ i lt. fails_before_first p xs i 0 (omega arith))

pub list_any-past_end : (p : ℕ → Bool) (xs : List ℕ) → position p xs ≡ None → list_any p xs ≡ false
list_any-past_end p xs e = list_any_none p xs (none_before p xs e)

-- what stands before and behind that place
pub before_first-at : (p : ℕ → Bool) (xs : List ℕ) (i : ℕ) → position p xs ≡ Some i → take i xs ≡ before_first p xs
before_first-at p xs i e = ap (λ k. take k xs) (sym (at_position p xs i e).0)

pub after_first-at : (p : ℕ → Bool) (xs : List ℕ) (i : ℕ) → position p xs ≡ Some i → take (length xs - (i + 1)) (drop (i + 1) xs) ≡ after_first p xs
after_first-at p xs i e = take_rest xs (i + 1) ∙ ap (λ k. drop (k + 1) xs) (sym (at_position p xs i e).0)

-- a list in which no element passes is one part
pub slice_split-whole : (p : ℕ → Bool) (xs : List ℕ) → position p xs ≡ None → slice_split p xs ≡ xs ∷ []
slice_split-whole p xs e = slice_split_none p xs (none_before p xs e)

-- the first part ends at the first element that passes
pub slice_split-cut : (p : ℕ → Bool) (xs : List ℕ) (i : ℕ) → position p xs ≡ Some i → slice_split p xs ≡ take i xs ∷ slice_split p (take (length xs - (i + 1)) (drop (i + 1) xs))
slice_split-cut p xs i e =
    let at = at_position p xs i e in
    slice_split_first p xs 0 (omega (arith, at.0, at.1)) ∙ ap (λ k. take k xs ∷ slice_split p (drop (k + 1) xs)) at.0 ∙ ap (λ (rest : List ℕ). take i xs ∷ slice_split p rest) (sym (take_rest xs (i + 1)))

-- ---- a search that begins behind elements that do not pass

counted-le : (b : Bool) (n m : ℕ) → n ≤ m → cond b (1 + n) 0 ≤ 1 + m
counted-le true n m h = omega arith
counted-le false n m h = omega arith

pub position_or_len-le : (p : ℕ → Bool) (xs : List ℕ) → position_or_len p xs ≤ length xs
position_or_len-le p [] = omega arith
position_or_len-le p (x ∷ xs) = let h = counted-le (not (p x)) (position_or_len p xs) (length xs) (position_or_len-le p xs) in omega (arith, h)

drop-step : (b : Bool) (n k i : ℕ) → (i ≤ n → n ≡ i + k) → suc i ≤ cond b (1 + n) 0 → cond b (1 + n) 0 ≡ suc i + k
drop-step true n k i f h = omega (arith, f (omega arith))
drop-step false n k i f h = absurd (omega arith)

pub position_or_len-drop : (p : ℕ → Bool) (n : ℕ) (xs : List ℕ) → n ≤ position_or_len p xs → position_or_len p xs ≡ n + position_or_len p (drop n xs)
position_or_len-drop p zero xs h = omega arith
position_or_len-drop p (suc n) [] h = absurd (omega arith)
position_or_len-drop p (suc n) (x ∷ xs) h = drop-step (not (p x)) (position_or_len p xs) (position_or_len p (drop n xs)) n (position_or_len-drop p n xs) h

front-step : (b more : Bool) (n k : ℕ) → (more ≡ false → k ≤ n) → (b || more) ≡ false → suc k ≤ cond (not b) (1 + n) 0
front-step true more n k f e = absurd cc
front-step false more n k f e = omega (arith, f e)

none_in_front : (p : ℕ → Bool) (k : ℕ) (xs : List ℕ) → k ≤ length xs → list_any p (take k xs) ≡ false → k ≤ position_or_len p xs
none_in_front p zero xs l e = omega arith
none_in_front p (suc k) [] l e = absurd (omega arith)
none_in_front p (suc k) (x ∷ xs) l e = front-step (p x) (list_any p (take k xs)) (position_or_len p xs) k (none_in_front p k xs (omega arith)) e

-- it goes on behind further ones
pub passed-more : (p : ℕ → Bool) (n k : ℕ) (xs : List ℕ) → n + k ≤ length xs → list_any p (take k (drop n xs)) ≡ false → n ≤ position_or_len p xs → n + k ≤ position_or_len p xs
passed-more p n k xs l e h = omega (arith, position_or_len-drop p n xs h, none_in_front p k (drop n xs) (omega (arith, length-drop n xs)) e)

pub position-behind : (p : ℕ → Bool) (n i : ℕ) (xs : List ℕ) → n ≤ position_or_len p xs → position p (drop n xs) ≡ Some i → (position p xs ≡ Some (n + i)) × (n + i < length xs)
position-behind p n i xs h e =
    let at = at_position p (drop n xs) i e in
    let whole : position_or_len p xs ≡ n + i = position_or_len-drop p n xs h ∙ ap (λ k. n + k) at.0 in
    let within : n + i < length xs = omega (arith, at.1, length-drop n xs) in
    (rw (lt-ltb (position_or_len p xs) (length xs) (omega (arith, whole, within))) (ap Some whole), within)

pub position-none_behind : (p : ℕ → Bool) (n : ℕ) (xs : List ℕ) → n ≤ position_or_len p xs → position p (drop n xs) ≡ None → position p xs ≡ None
position-none_behind p n xs h e =
    let past = past_end p (drop n xs) e in
    rw (le-ltb (position_or_len p xs) (length xs) (omega (arith, past, position_or_len-drop p n xs h, length-drop n xs))) refl
