-- A packed path that is read was packed so, and what was packed is read again.
use Rattle.std.proofs.Common.{◌≡◌, ℕ, ◌+◌, ◌*◌, ◌/◌, ◌%◌, ◌<◌, ◌≤◌, ◌==◌, ◌≢◌, inl, inr, Bool, true, false, if◌then◌else◌, List, [], ◌∷◌, length, Result, Ok, Err, IfOk, refl, sym, ◌∙◌, ap, ap₂, subst, arith}
use Rattle.std.proofs.lemmas.Bool.{cases_lt, cases_eq, eq-eqb, ne_eqb, eqb-true, eqb-false}
use Rattle.byte_model.specs.Nibbles.{nibbles, AreNibbles, AreBytes}
use Rattle.byte_model.specs.PackedPath.{two_to_a_byte, packed}
use Rattle.byte_model.proofs.Digits.{length-nibbles, AreNibbles-nibbles}
use Rattle.byte_model.proofs.Paths.{packed-odd, packed-even}
use Rattle.record_model.specs.Paths.{PathFault, flag, pad, is_leaf, path_in}

-- ---- bytes of two nibbles

two_to_a_byte-nibbles : (bytes : List ℕ) → two_to_a_byte (nibbles bytes) ≡ bytes
unfolding two_to_a_byte nibbles
two_to_a_byte-nibbles [] = refl
two_to_a_byte-nibbles (byte ∷ bytes) =
    let whole : 16 * (byte / 16) + byte % 16 ≡ byte = omega arith in
    ap₂ (λ (n : ℕ) (ns : List ℕ). n ∷ ns) whole (two_to_a_byte-nibbles bytes)

pub nibbles-two_to_a_byte : (path : List ℕ) → AreNibbles path → length path % 2 ≡ 0 → nibbles (two_to_a_byte path) ≡ path
unfolding two_to_a_byte nibbles
nibbles-two_to_a_byte [] small even = refl
nibbles-two_to_a_byte (last ∷ []) small even = absurd (omega arith)
nibbles-two_to_a_byte (high ∷ low ∷ rest) small even =
    let high_small : high < 16 = small.0 in
    let low_small : low < 16 = small.1.0 in
    let first : (16 * high + low) / 16 ≡ high = omega arith in
    let second : (16 * high + low) % 16 ≡ low = omega arith in
    let others = nibbles-two_to_a_byte rest small.1.1 (omega arith) in
    λ i. first i ∷ second i ∷ others i

-- ---- what reading gives, by the first byte

odd_read : (first : ℕ) (bytes : List ℕ) → first < 64 → first / 16 % 2 ≡ 1 → path_in (first ∷ bytes) ≡ Ok (first % 16 ∷ nibbles bytes, is_leaf first)
unfolding path_in nibbles
odd_read first bytes known odd =
    let flags : (first / 64 == 0) ≡ true = eq-eqb _ _ (omega arith) in
    let odd_flag : (first / 16 % 2 == 1) ≡ true = eq-eqb _ _ odd in
    rw (flags, odd_flag) refl

even_read : (first : ℕ) (bytes : List ℕ) → first < 64 → first / 16 % 2 ≢ 1 → first % 16 ≡ 0 → path_in (first ∷ bytes) ≡ Ok (nibbles bytes, is_leaf first)
unfolding path_in nibbles
even_read first bytes known even padded =
    let flags : (first / 64 == 0) ≡ true = eq-eqb _ _ (omega arith) in
    let odd_flag : (first / 16 % 2 == 1) ≡ false = ne_eqb _ _ even in
    let pad : (first % 16 == 0) ≡ true = eq-eqb _ _ padded in
    rw (flags, odd_flag, pad) refl

flag_refused : (first : ℕ) (bytes : List ℕ) → 64 ≤ first → path_in (first ∷ bytes) ≡ Err flag
unfolding path_in
flag_refused first bytes unknown =
    let flags : (first / 64 == 0) ≡ false = ne_eqb _ _ (λ e. omega arith) in
    rw flags refl

pad_refused : (first : ℕ) (bytes : List ℕ) → first < 64 → first / 16 % 2 ≢ 1 → first % 16 ≢ 0 → path_in (first ∷ bytes) ≡ Err pad
unfolding path_in
pad_refused first bytes known even filled =
    let flags : (first / 64 == 0) ≡ true = eq-eqb _ _ (omega arith) in
    let odd_flag : (first / 16 % 2 == 1) ≡ false = ne_eqb _ _ even in
    let pad : (first % 16 == 0) ≡ false = ne_eqb _ _ filled in
    rw (flags, odd_flag, pad) refl

-- ---- the laws

-- the first byte is that of its flags and its low half
first_byte : (first : ℕ) (leaf : Bool) → is_leaf first ≡ leaf → first < 64 → first ≡ (if leaf then 32 else 0) + 16 * (first / 16 % 2) + first % 16
first_byte first true leaf known = let set : first / 32 % 2 ≡ 1 = eqb-true _ _ leaf in omega arith
first_byte first false leaf known = let clear : first / 32 % 2 ≢ 1 = eqb-false _ _ leaf in omega arith

abbrev IsPacked : List ℕ → List ℕ × Bool → Type 0
IsPacked bytes path = AreNibbles path.0 × (bytes ≡ packed path.1 path.0)

even_nibbles : (bytes : List ℕ) → length (nibbles bytes) % 2 ≡ 0
even_nibbles bytes = let count = length-nibbles bytes in omega arith

odd_found : (first : ℕ) (bytes : List ℕ) → AreBytes bytes → first < 64 → first / 16 % 2 ≡ 1 → IsPacked (first ∷ bytes) (first % 16 ∷ nibbles bytes, is_leaf first)
odd_found first bytes small known odd =
    let whole = first_byte first (is_leaf first) refl known in
    let byte : first ≡ (if is_leaf first then 32 else 0) + 16 + first % 16 = omega arith in
    let same : first ∷ bytes ≡ ((if is_leaf first then 32 else 0) + 16 + first % 16) ∷ two_to_a_byte (nibbles bytes) = ap₂ (λ (n : ℕ) (ns : List ℕ). n ∷ ns) byte (sym (two_to_a_byte-nibbles bytes)) in
    ((omega arith, AreNibbles-nibbles bytes small), same ∙ sym (packed-odd (is_leaf first) (first % 16) (nibbles bytes) (even_nibbles bytes)))

even_found : (first : ℕ) (bytes : List ℕ) → AreBytes bytes → first < 64 → first / 16 % 2 ≢ 1 → first % 16 ≡ 0 → IsPacked (first ∷ bytes) (nibbles bytes, is_leaf first)
even_found first bytes small known even padded =
    let whole = first_byte first (is_leaf first) refl known in
    let byte : first ≡ (if is_leaf first then 32 else 0) = omega arith in
    let same : first ∷ bytes ≡ (if is_leaf first then 32 else 0) ∷ two_to_a_byte (nibbles bytes) = ap₂ (λ (n : ℕ) (ns : List ℕ). n ∷ ns) byte (sym (two_to_a_byte-nibbles bytes)) in
    (AreNibbles-nibbles bytes small, same ∙ sym (packed-even (is_leaf first) (nibbles bytes) (even_nibbles bytes)))

pub path_in-found : (bytes : List ℕ) → AreBytes bytes → IfOk (path_in bytes) (IsPacked bytes)
unfolding path_in
path_in-found [] small = tt
path_in-found (first ∷ bytes) small = elim (cases_lt first 64) [
  | inl known ↦ elim (cases_eq (first / 16 % 2) 1) [
    | inl odd ↦ of (odd_read first bytes known odd) (odd_found first bytes small.1 known odd)
    | inr even ↦ elim (cases_eq (first % 16) 0) [
      | inl padded ↦ of (even_read first bytes known even padded) (even_found first bytes small.1 known even padded)
      | inr filled ↦ of (pad_refused first bytes known even filled) tt
    ]
  ]
  | inr unknown ↦ of (flag_refused first bytes unknown) tt
]
  where
    of : {read : Result (List ℕ × Bool) PathFault} → path_in (first ∷ bytes) ≡ read → IfOk read (IsPacked (first ∷ bytes)) → IfOk (path_in (first ∷ bytes)) (IsPacked (first ∷ bytes))
    of e found = subst (λ read. IfOk read (IsPacked (first ∷ bytes))) (sym e) found

-- the first byte that packing makes
leaf_again : (leaf : Bool) (low : ℕ) → low < 32 → is_leaf ((if leaf then 32 else 0) + low) ≡ leaf
leaf_again true low small = eq-eqb _ _ (omega arith)
leaf_again false low small = ne_eqb _ _ (λ e. omega arith)

flags_small : (leaf : Bool) (low : ℕ) → low < 32 → ((if leaf then 32 else 0) + low < 64) × (((if leaf then 32 else 0) + low) % 32 ≡ low)
flags_small true low small = (omega arith, omega arith)
flags_small false low small = (omega arith, omega arith)

odd_only : (leaf : Bool) (first : ℕ) (path : List ℕ) → AreNibbles (first ∷ path) → length path % 2 ≡ 0 → path_in (((if leaf then 32 else 0) + 16 + first) ∷ two_to_a_byte path) ≡ Ok (first ∷ path, leaf)
odd_only leaf first path small even =
    let below : first < 16 = small.0 in
    let byte : (if leaf then 32 else 0) + 16 + first ≡ (if leaf then 32 else 0) + (16 + first) = omega arith in
    let flags = flags_small leaf (16 + first) (omega arith) in
    let low : ((if leaf then 32 else 0) + 16 + first) % 16 ≡ first = omega arith in
    let behind = nibbles-two_to_a_byte path small.1 even in
    let leaf_flag : is_leaf ((if leaf then 32 else 0) + 16 + first) ≡ leaf = ap is_leaf byte ∙ leaf_again leaf (16 + first) (omega arith) in
    odd_read ((if leaf then 32 else 0) + 16 + first) (two_to_a_byte path) (omega arith) (omega arith) ∙ (λ i. Ok (low i ∷ behind i, leaf_flag i))

even_only : (leaf : Bool) (path : List ℕ) → AreNibbles path → length path % 2 ≡ 0 → path_in ((if leaf then 32 else 0) ∷ two_to_a_byte path) ≡ Ok (path, leaf)
even_only leaf path small even =
    let byte : (if leaf then 32 else 0) ≡ (if leaf then 32 else 0) + 0 = omega arith in
    let flags = flags_small leaf 0 (omega arith) in
    let behind = nibbles-two_to_a_byte path small even in
    let leaf_flag : is_leaf (if leaf then 32 else 0) ≡ leaf = ap is_leaf byte ∙ leaf_again leaf 0 (omega arith) in
    even_read (if leaf then 32 else 0) (two_to_a_byte path) (omega arith) (λ e. omega arith) (omega arith) ∙ (λ i. Ok (behind i, leaf_flag i))

pub path_in-only : (leaf : Bool) (path : List ℕ) → AreNibbles path → path_in (packed leaf path) ≡ Ok (path, leaf)
path_in-only leaf path small = elim (cases_eq (length path % 2) 1) [
  | inl odd ↦ by_first path small odd
  | inr even ↦ let even : length path % 2 ≡ 0 = omega arith in ap path_in (packed-even leaf path even) ∙ even_only leaf path small even
]
  where
    by_first : (path : List ℕ) → AreNibbles path → length path % 2 ≡ 1 → path_in (packed leaf path) ≡ Ok (path, leaf)
    by_first [] small odd = absurd (omega arith)
    by_first (first ∷ path) small odd =
        let even : length path % 2 ≡ 0 = omega arith in
        ap path_in (packed-odd leaf first path even) ∙ odd_only leaf first path small even
