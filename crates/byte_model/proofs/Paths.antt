-- Packed paths: how long they are, and that no two paths are packed alike.
use Rattle.std.proofs.Common.{◌≡◌, ℕ, ◌+◌, ◌*◌, ◌/◌, ◌%◌, ◌<◌, ◌==◌, Bool, true, false, if◌then◌else◌, List, [], ◌∷◌, length, ◌⊎◌, inl, inr, refl, sym, ◌∙◌, ap, ap₂, arith}
use Rattle.std.proofs.lemmas.Bool.Decides.{nat_tests}
use Rattle.byte_model.specs.Nibbles.{AreNibbles}
use Rattle.byte_model.specs.PackedPath.{two_to_a_byte, packed_behind, packed}
use Rattle.byte_model.proofs.Lists.{first_same, rest_same}

pub length-two_to_a_byte : (path : List ℕ) → length (two_to_a_byte path) ≡ length path / 2
unfolding two_to_a_byte
length-two_to_a_byte [] = refl
length-two_to_a_byte (last ∷ []) = refl
length-two_to_a_byte (high ∷ low ∷ rest) = let h = length-two_to_a_byte rest in omega arith

-- an odd number of nibbles, and an even one
pub packed-odd : (leaf : Bool) (first : ℕ) (rest : List ℕ) → length rest % 2 ≡ 0 → packed leaf (first ∷ rest) ≡ ((if leaf then 32 else 0) + 16 + first) ∷ two_to_a_byte rest
unfolding packed packed_behind
packed-odd leaf first rest even =
    let test : (length (first ∷ rest) % 2 == 1) ≡ true = grind (arith, nat_tests) in
    rw test refl

pub packed-even : (leaf : Bool) (path : List ℕ) → length path % 2 ≡ 0 → packed leaf path ≡ (if leaf then 32 else 0) ∷ two_to_a_byte path
unfolding packed packed_behind two_to_a_byte
packed-even leaf [] even = refl
packed-even leaf (first ∷ rest) even =
    let test : (length (first ∷ rest) % 2 == 1) ≡ false = grind (arith, nat_tests) in
    rw test refl

parity : (n : ℕ) → (n % 2 ≡ 0) ⊎ (n % 2 ≡ 1)
parity n = grind arith

pub length-packed : (leaf : Bool) (path : List ℕ) → length (packed leaf path) ≡ length path / 2 + 1
length-packed leaf path =
    elim (parity (length path)) [
      | inl even ↦ let n = length-two_to_a_byte path in ap length (packed-even leaf path even) ∙ omega arith
      | inr odd ↦ go path odd
    ]
  where
    go : (p : List ℕ) → length p % 2 ≡ 1 → length (packed leaf p) ≡ length p / 2 + 1
    go [] odd = absurd (omega arith)
    go (first ∷ rest) odd =
        let even : length rest % 2 ≡ 0 = omega arith in
        let n = length-two_to_a_byte rest in
        ap length (packed-odd leaf first rest even) ∙ omega arith

-- ---- injectivity

-- two paths of even lengths that have the same bytes
pub two_to_a_byte-same : (p q : List ℕ) → AreNibbles p → AreNibbles q → length p % 2 ≡ 0 → length q % 2 ≡ 0 → two_to_a_byte p ≡ two_to_a_byte q → p ≡ q
unfolding two_to_a_byte
two_to_a_byte-same [] [] h k even even' e = refl
two_to_a_byte-same [] (b ∷ []) h k even even' e = absurd (omega arith)
two_to_a_byte-same [] (b ∷ d ∷ q) h k even even' e = cc
two_to_a_byte-same (a ∷ []) q h k even even' e = absurd (omega arith)
two_to_a_byte-same (a ∷ c ∷ p) [] h k even even' e = cc
two_to_a_byte-same (a ∷ c ∷ p) (b ∷ []) h k even even' e = absurd (omega arith)
two_to_a_byte-same (a ∷ c ∷ p) (b ∷ d ∷ q) h k even even' e =
    let byte : 16 * a + c ≡ 16 * b + d = first_same e in
    let c_small : c < 16 = h.1.0 in
    let d_small : d < 16 = k.1.0 in
    let high : a ≡ b = omega arith in
    let low : c ≡ d = omega arith in
    let rest = two_to_a_byte-same p q h.1.1 k.1.1 (omega arith) (omega arith) (rest_same e) in
    λ i. high i ∷ low i ∷ rest i

abbrev flag : Bool → ℕ
flag leaf = if leaf then 32 else 0

flags_same : (leaf other : Bool) → flag leaf / 32 ≡ flag other / 32 → leaf ≡ other
flags_same true true e = refl
flags_same true false e = absurd (omega arith)
flags_same false true e = absurd (omega arith)
flags_same false false e = refl

flags_of : (leaf : Bool) → (flag leaf ≡ 32) ⊎ (flag leaf ≡ 0)
flags_of true = inl refl
flags_of false = inr refl

-- the first byte tells the flags and the lone nibble
first_byte : (f g m n : ℕ) → (f ≡ 32) ⊎ (f ≡ 0) → (g ≡ 32) ⊎ (g ≡ 0) → m < 32 → n < 32 → f + m ≡ g + n → (f ≡ g) × (m ≡ n)
first_byte f g m n h k small small' e = (omega arith, omega arith)

pub packed-same : (leaf other : Bool) (p q : List ℕ) → AreNibbles p → AreNibbles q → packed leaf p ≡ packed other q → (leaf ≡ other) × (p ≡ q)
packed-same leaf other p q h k e = go p q h k (parity (length p)) (parity (length q)) e
  where
    f : ℕ
    f = flag leaf

    g : ℕ
    g = flag other

    same : f ≡ g → leaf ≡ other
    same e = flags_same leaf other (ap (λ n. n / 32) e)

    evens : (p q : List ℕ) → AreNibbles p → AreNibbles q → length p % 2 ≡ 0 → length q % 2 ≡ 0 → f ∷ two_to_a_byte p ≡ g ∷ two_to_a_byte q → (leaf ≡ other) × (p ≡ q)
    evens p q h k even even' e = (same (first_same e), two_to_a_byte-same p q h k even even' (rest_same e))

    odds : (x y : ℕ) (p q : List ℕ) → AreNibbles (x ∷ p) → AreNibbles (y ∷ q) → length p % 2 ≡ 0 → length q % 2 ≡ 0 → (f + 16 + x) ∷ two_to_a_byte p ≡ (g + 16 + y) ∷ two_to_a_byte q → (leaf ≡ other) × (x ∷ p ≡ y ∷ q)
    odds x y p q h k even even' e =
        let x_small : x < 16 = h.0 in
        let y_small : y < 16 = k.0 in
        let byte : f + 16 + x ≡ g + 16 + y = first_same e in
        let r = first_byte f g (16 + x) (16 + y) (flags_of leaf) (flags_of other) (omega arith) (omega arith) (omega arith) in
        let whole : x ≡ y = omega (arith, r.1) in
        (same r.0, ap₂ (λ (n : ℕ) (ns : List ℕ). n ∷ ns) whole (two_to_a_byte-same p q h.1 k.1 even even' (rest_same e)))

    mixed : (f g x : ℕ) (ps qs : List ℕ) → (f ≡ 32) ⊎ (f ≡ 0) → (g ≡ 32) ⊎ (g ≡ 0) → x < 16 → (f + 16 + x) ∷ ps ≡ g ∷ qs → ⊥
    mixed f g x ps qs h k small e = let byte : f + 16 + x ≡ g = first_same e in omega arith

    go : (p q : List ℕ) → AreNibbles p → AreNibbles q → (length p % 2 ≡ 0) ⊎ (length p % 2 ≡ 1) → (length q % 2 ≡ 0) ⊎ (length q % 2 ≡ 1) → packed leaf p ≡ packed other q → (leaf ≡ other) × (p ≡ q)
    go p q h k (inl even) (inl even') e = evens p q h k even even' (sym (packed-even leaf p even) ∙ e ∙ packed-even other q even')
    go [] q h k (inr odd) o e = absurd (omega arith)
    go p [] h k o (inr odd) e = absurd (omega arith)
    go (x ∷ p) q h k (inr odd) (inl even') e = absurd (mixed f g x (two_to_a_byte p) (two_to_a_byte q) (flags_of leaf) (flags_of other) h.0 (sym (packed-odd leaf x p (omega arith)) ∙ e ∙ packed-even other q even'))
    go p (y ∷ q) h k (inl even) (inr odd) e = absurd (mixed g f y (two_to_a_byte q) (two_to_a_byte p) (flags_of other) (flags_of leaf) k.0 (sym (packed-odd other y q (omega arith)) ∙ sym e ∙ packed-even leaf p even))
    go (x ∷ p) (y ∷ q) h k (inr odd) (inr odd') e = odds x y p q h k (omega arith) (omega arith) (sym (packed-odd leaf x p (omega arith)) ∙ e ∙ packed-odd other y q (omega arith))
