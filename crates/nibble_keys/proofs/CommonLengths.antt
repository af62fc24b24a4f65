-- The longest common prefix of two keys, from that of their bytes.
use Rattle.std.proofs.Common.{ℕ, suc, ◌+◌, ◌*◌, ◌/◌, ◌%◌, ◌<◌, ◌≤◌, ◌≡◌, ◌≢◌, List, [], ◌∷◌, ◌++◌, length, take, drop, get_or, ap, subst, sym, ◌∙◌, arith}
use Rattle.std.proofs.lemmas.List.{take_more, drop_more}
use Rattle.byte_model.specs.Nibbles.{nibbles}
use Rattle.nibble_keys.specs.CommonLength.{IsCommonLength}
use Rattle.byte_model.proofs.Digits.{length-nibbles}
use Rattle.nibble_keys.proofs.NibbleLists.{take-nibbles, drop-nibbles, get_or-nibbles_high, get_or-nibbles_low}

-- the bytes agree below n, and at n already the high nibbles don't
pub common-high : (xs ys : List ℕ) (n : ℕ) → IsCommonLength xs ys n → (n < length xs → n < length ys → get_or xs n 0 / 16 ≢ get_or ys n 0 / 16) → IsCommonLength (nibbles xs) (nibbles ys) (2 * n)
common-high xs ys n common differ = record {
  in_first = omega (arith, length-nibbles xs, common.in_first);
  in_second = omega (arith, length-nibbles ys, common.in_second);
  shared = take-nibbles xs n ∙ ap nibbles common.shared ∙ sym (take-nibbles ys n);
  longest = λ left right same.
      let left' : n < length xs = omega (arith, length-nibbles xs, left) in
      let right' : n < length ys = omega (arith, length-nibbles ys, right) in
      differ left' right' (sym (get_or-nibbles_high xs n) ∙ same ∙ get_or-nibbles_high ys n);
}

-- the bytes agree below n, and at n the high nibbles do
pub common-low : (xs ys : List ℕ) (n : ℕ) → IsCommonLength xs ys n → n < length xs → n < length ys → get_or xs n 0 / 16 ≡ get_or ys n 0 / 16 → IsCommonLength (nibbles xs) (nibbles ys) (2 * n + 1)
common-low xs ys n common left right same = record {
  in_first = omega (arith, length-nibbles xs);
  in_second = omega (arith, length-nibbles ys);
  shared =
      let in_xs : 2 * n < length (nibbles xs) = omega (arith, length-nibbles xs) in
      let in_ys : 2 * n < length (nibbles ys) = omega (arith, length-nibbles ys) in
      let prefix : take (2 * n) (nibbles xs) ≡ take (2 * n) (nibbles ys) = take-nibbles xs n ∙ ap nibbles common.shared ∙ sym (take-nibbles ys n) in
      let here : get_or (nibbles xs) (2 * n) 0 ≡ get_or (nibbles ys) (2 * n) 0 = get_or-nibbles_high xs n ∙ same ∙ sym (get_or-nibbles_high ys n) in
      take_more (nibbles xs) (2 * n) 0 in_xs ∙ (ap (λ path. path ++ get_or (nibbles xs) (2 * n) 0 ∷ []) prefix ∙ (ap (λ nibble. take (2 * n) (nibbles ys) ++ nibble ∷ []) here ∙ sym (take_more (nibbles ys) (2 * n) 0 in_ys)));
  longest = λ _ _ low_same.
      let lows : get_or xs n 0 % 16 ≡ get_or ys n 0 % 16 = sym (get_or-nibbles_low xs n) ∙ low_same ∙ get_or-nibbles_low ys n in
      common.longest left right (omega (arith, lows, same));
}

pub common-cons : (x y : ℕ) (xs ys : List ℕ) (n : ℕ) → x ≡ y → IsCommonLength xs ys n → IsCommonLength (x ∷ xs) (y ∷ ys) (1 + n)
common-cons x y xs ys n same common = let e : 1 + n ≡ suc n = omega arith in rw e (record {
  in_first = omega (arith, common.in_first);
  in_second = omega (arith, common.in_second);
  shared = ap (λ nibble. nibble ∷ take n xs) same ∙ ap (λ path. y ∷ path) common.shared;
  longest = λ left right. common.longest (omega (arith, left)) (omega (arith, right));
})

-- two views of keys that both begin at a whole byte
pub common-whole : (left right xs ys : List ℕ) (p q h k n : ℕ) → drop p (nibbles left) ≡ xs → drop q (nibbles right) ≡ ys → p ≡ 2 * h → q ≡ 2 * k → IsCommonLength (nibbles (drop h left)) (nibbles (drop k right)) n → IsCommonLength xs ys n
common-whole left right xs ys p q h k n xs_is ys_is p_is q_is common =
    let xs_are : nibbles (drop h left) ≡ xs = sym (drop-nibbles left h) ∙ (ap (λ i. drop i (nibbles left)) (sym p_is) ∙ xs_is) in
    let ys_are : nibbles (drop k right) ≡ ys = sym (drop-nibbles right k) ∙ (ap (λ i. drop i (nibbles right)) (sym q_is) ∙ ys_is) in
    let P : List ℕ → Type 0 = λ path. IsCommonLength xs path n in
    let Q : List ℕ → Type 0 = λ path. IsCommonLength path (nibbles (drop k right)) n in
    subst P ys_are (subst Q xs_are common)

-- a view that begins at a low nibble: that nibble, and then whole bytes
view-half : (key path : List ℕ) (index h : ℕ) → drop index (nibbles key) ≡ path → index + 1 ≡ 2 * h → h ≤ length key → path ≡ get_or path 0 0 ∷ nibbles (drop h key)
view-half key path index h is odd within =
    let inside : index < length (nibbles key) = omega (arith, length-nibbles key) in
    let split : drop index (nibbles key) ≡ get_or (nibbles key) index 0 ∷ drop (index + 1) (nibbles key) = drop_more (nibbles key) index 0 inside in
    let rest : drop (index + 1) (nibbles key) ≡ nibbles (drop h key) = ap (λ i. drop i (nibbles key)) odd ∙ drop-nibbles key h in
    let whole : path ≡ get_or (nibbles key) index 0 ∷ nibbles (drop h key) = sym is ∙ (split ∙ ap (λ back. get_or (nibbles key) index 0 ∷ back) rest) in
    whole ∙ ap (λ nibble. nibble ∷ nibbles (drop h key)) (sym (ap (λ p. get_or p 0 0) whole))

-- two views of keys that both begin at a low nibble
pub common-half : (left right xs ys : List ℕ) (p q h k n : ℕ) → drop p (nibbles left) ≡ xs → drop q (nibbles right) ≡ ys → p + 1 ≡ 2 * h → q + 1 ≡ 2 * k → h ≤ length left → k ≤ length right → get_or xs 0 0 ≡ get_or ys 0 0 → IsCommonLength (nibbles (drop h left)) (nibbles (drop k right)) n → IsCommonLength xs ys (1 + n)
common-half left right xs ys p q h k n xs_is ys_is p_is q_is in_left in_right same common =
    let P : List ℕ → Type 0 = λ path. IsCommonLength path ys (1 + n) in
    let Q : List ℕ → Type 0 = λ path. IsCommonLength (get_or xs 0 0 ∷ nibbles (drop h left)) path (1 + n) in
    subst P (sym (view-half left xs p h xs_is p_is in_left))
    (subst Q (sym (view-half right ys q k ys_is q_is in_right))
    (common-cons (get_or xs 0 0) (get_or ys 0 0) (nibbles (drop h left)) (nibbles (drop k right)) n same common))
