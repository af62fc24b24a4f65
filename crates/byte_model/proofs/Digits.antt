-- Keys as nibbles: the nibbles are as many and as large as they should be, and keep keys apart and in order.
use Rattle.std.proofs.Common.{◌≡◌, ℕ, ◌*◌, ◌/◌, ◌%◌, ◌<◌, List, [], ◌∷◌, ◌++◌, length, ◌⊎◌, inl, inr, refl, sym, ◌∙◌, ap, ap₂, arith, Ordering, Less, Equal, Greater, nat_cmp}
use Rattle.std.specs.Ordering.{ordering_then}
use Rattle.std.specs.Cmp.{nat_cmp_is}
use Rattle.std.specs.Cmp.Lexicographic.{slice_cmp}
use Rattle.byte_model.specs.Nibbles.{nibbles, AreNibbles, AreBytes}
use Rattle.byte_model.proofs.Lists.{first_same, rest_same}

pub length-nibbles : (key : List ℕ) → length (nibbles key) ≡ 2 * length key
unfolding nibbles
length-nibbles [] = refl
length-nibbles (byte ∷ key) = let h = length-nibbles key in omega arith

pub AreNibbles-nibbles : (key : List ℕ) → AreBytes key → AreNibbles (nibbles key)
unfolding nibbles
AreNibbles-nibbles [] h = tt
AreNibbles-nibbles (byte ∷ key) h = let small : byte < 256 = h.0 in (omega arith, (omega arith, AreNibbles-nibbles key h.1))

-- ---- paths of nibbles

pub AreNibbles-prefix : (prefix rest : List ℕ) → AreNibbles (prefix ++ rest) → AreNibbles prefix
AreNibbles-prefix [] rest h = tt
AreNibbles-prefix (x ∷ prefix) rest h = (h.0, AreNibbles-prefix prefix rest h.1)

pub AreNibbles-rest : (prefix rest : List ℕ) → AreNibbles (prefix ++ rest) → AreNibbles rest
AreNibbles-rest [] rest h = h
AreNibbles-rest (x ∷ prefix) rest h = AreNibbles-rest prefix rest h.1

pub AreNibbles-append : (prefix rest : List ℕ) → AreNibbles prefix → AreNibbles rest → AreNibbles (prefix ++ rest)
AreNibbles-append [] rest h k = k
AreNibbles-append (x ∷ prefix) rest h k = (h.0, AreNibbles-append prefix rest h.1 k)

-- ---- injectivity

pub nibbles-same : (a b : List ℕ) → nibbles a ≡ nibbles b → a ≡ b
unfolding nibbles
nibbles-same [] [] e = refl
nibbles-same [] (y ∷ b) e = cc
nibbles-same (x ∷ a) [] e = cc
nibbles-same (x ∷ a) (y ∷ b) e =
    let high : x / 16 ≡ y / 16 = first_same e in
    let low : x % 16 ≡ y % 16 = first_same (rest_same e) in
    let whole : x ≡ y = omega arith in
    ap₂ (λ (n : ℕ) (ns : List ℕ). n ∷ ns) whole (nibbles-same a b (rest_same (rest_same e)))

-- ---- order

pub nat_cmp-less : (x y : ℕ) → x < y → nat_cmp x y ≡ Less
nat_cmp-less x y h = sym (nat_cmp_is x y Less h)

pub nat_cmp-greater : (x y : ℕ) → y < x → nat_cmp x y ≡ Greater
nat_cmp-greater x y h = sym (nat_cmp_is x y Greater h)

pub nat_cmp-itself : (x : ℕ) → nat_cmp x x ≡ Equal
nat_cmp-itself x = sym (nat_cmp_is x x Equal refl)

-- which of two numbers is the lower
pub compared : (x y : ℕ) → (x < y) ⊎ ((x ≡ y) ⊎ (y < x))
compared x y = grind arith

-- two digits decide as their number does
digits_cmp : (x y : ℕ) (r : Ordering) → ordering_then (nat_cmp (x / 16) (y / 16)) (ordering_then (nat_cmp (x % 16) (y % 16)) r) ≡ ordering_then (nat_cmp x y) r
digits_cmp x y r =
    let low : Ordering = ordering_then (nat_cmp (x % 16) (y % 16)) r in
    let high : (o : Ordering) → nat_cmp (x / 16) (y / 16) ≡ o → ordering_then (nat_cmp (x / 16) (y / 16)) low ≡ ordering_then o low = λ o e. ap (λ (p : Ordering). ordering_then p low) e in
    let last : (o : Ordering) → nat_cmp (x % 16) (y % 16) ≡ o → low ≡ ordering_then o r = λ o e. ap (λ (p : Ordering). ordering_then p r) e in
    let whole : (o : Ordering) → nat_cmp x y ≡ o → ordering_then o r ≡ ordering_then (nat_cmp x y) r = λ o e. sym (ap (λ (p : Ordering). ordering_then p r) e) in
    elim (compared x y) [
      | inl less ↦ elim (compared (x / 16) (y / 16)) [
        | inl h ↦ high Less (nat_cmp-less _ _ h) ∙ whole Less (nat_cmp-less x y less)
        | inr (inl h) ↦ high Equal (sym (nat_cmp_is _ _ Equal h)) ∙ last Less (nat_cmp-less (x % 16) (y % 16) (omega arith)) ∙ whole Less (nat_cmp-less x y less)
        | inr (inr h) ↦ absurd (omega arith)
      ]
      | inr (inl same) ↦
          let same_high : x / 16 ≡ y / 16 = ap (λ n. n / 16) same in
          let same_low : x % 16 ≡ y % 16 = ap (λ n. n % 16) same in
          high Equal (sym (nat_cmp_is _ _ Equal same_high)) ∙ last Equal (sym (nat_cmp_is _ _ Equal same_low)) ∙ whole Equal (sym (nat_cmp_is x y Equal same))
      | inr (inr greater) ↦ elim (compared (x / 16) (y / 16)) [
        | inl h ↦ absurd (omega arith)
        | inr (inl h) ↦ high Equal (sym (nat_cmp_is _ _ Equal h)) ∙ last Greater (nat_cmp-greater (x % 16) (y % 16) (omega arith)) ∙ whole Greater (nat_cmp-greater x y greater)
        | inr (inr h) ↦ high Greater (nat_cmp-greater _ _ h) ∙ whole Greater (nat_cmp-greater x y greater)
      ]
    ]

pub slice_cmp-nibbles : (a b : List ℕ) → slice_cmp nat_cmp (nibbles a) (nibbles b) ≡ slice_cmp nat_cmp a b
unfolding nibbles
slice_cmp-nibbles [] [] = refl
slice_cmp-nibbles [] (y ∷ b) = refl
slice_cmp-nibbles (x ∷ a) [] = refl
slice_cmp-nibbles (x ∷ a) (y ∷ b) =
    ap (λ r. ordering_then (nat_cmp (x / 16) (y / 16)) (ordering_then (nat_cmp (x % 16) (y % 16)) r)) (slice_cmp-nibbles a b) ∙ digits_cmp x y (slice_cmp nat_cmp a b)
