-- A bitmap and the digests behind it are the children of a branch, and those children's bitmap and digests are the same again.
use Rattle.std.proofs.Common.{◌≡◌, ℕ, zero, suc, ◌+◌, ◌*◌, ◌/◌, ◌%◌, ◌^◌, ◌<◌, ◌≤◌, ◌==◌, Bool, true, false, cond, if◌then◌else◌, List, ◌++◌, length, take, drop, Option, None, Some, IfSome, is_some, ◌⊎◌, inl, inr, refl, sym, ◌∙◌, ap, ap₂, subst, arith, mod-eq_of_lt, take-add, append-nil, length-append, length-take, length-drop}
use Rattle.std.proofs.Math.Nat.{div-eq_of_lt}
use Rattle.std.proofs.Math.Pow.{pow_mono}
use Rattle.std.proofs.lemmas.Bool.{cases_lt, cases_eq, eq-eqb, ne_eqb, eqb-true, eqb-false}
use Rattle.std.proofs.lemmas.List.{take_all}
use Rattle.std.proofs.lemmas.Nat.{mod-pow-add, mod_below, pow_pos}
use Rattle.byte_model.specs.Below.{sum_below, joined_below}
use Rattle.byte_model.specs.Borsh.{borsh_u16}
use Rattle.byte_model.specs.Node.{child_bit, child_digest, spelled_children, child_count}
use Rattle.byte_model.specs.Laws.{IsDigest}
use Rattle.byte_model.proofs.Spellings.{bits-lt, spelled_children-same}
use Rattle.record_model.specs.Records.{bit, bits_below, child_in}
use Rattle.record_model.proofs.Layouts.{FitsChildren}

abbrev pub bitmap_of : (ℕ → Option (List ℕ)) → ℕ
bitmap_of kids = sum_below (child_bit kids) 16

abbrev pub digests_of : (ℕ → Option (List ℕ)) → List ℕ
digests_of kids = joined_below (λ i. child_digest (kids i)) 16

abbrev pub AreDigests : (ℕ → Option (List ℕ)) → Type 0
AreDigests kids = (x : ℕ) → x < 16 → IfSome (kids x) IsDigest

-- ---- bits

-- a number below 2 ^ (n + 1) is bit n and the bits below
bits_apart : (bitmap n : ℕ) → bitmap % 2 ^ suc n ≡ bit bitmap n * 2 ^ n + bitmap % 2 ^ n
bits_apart bitmap n = let next : suc n ≡ 1 + n = omega arith in ap (λ k. bitmap % 2 ^ k) next ∙ mod-pow-add bitmap 1 n

-- bit n and the bits below, told from their sum
top_bit : (a : Bool) (digit m n power : ℕ) → digit < 2 → m < power → n < power → digit * power + m ≡ n + (if a then power else 0) → ((digit == 1) ≡ a) × (m ≡ n)
top_bit a zero m n power two h k e = go a e
  where
    go : (a : Bool) → 0 * power + m ≡ n + (if a then power else 0) → ((0 == 1) ≡ a) × (m ≡ n)
    go true e = absurd (omega arith)
    go false e = (refl, omega arith)
top_bit a (suc zero) m n power two h k e = go a e
  where
    go : (a : Bool) → 1 * power + m ≡ n + (if a then power else 0) → ((1 == 1) ≡ a) × (m ≡ n)
    go true e = (refl, omega arith)
    go false e = absurd (omega arith)
top_bit a (suc (suc digit)) m n power two h k e = absurd (omega arith)

-- the bits of a sum are those that were added
bits_told : (kids : ℕ → Option (List ℕ)) (bitmap n : ℕ) → bitmap % 2 ^ n ≡ sum_below (child_bit kids) n → (x : ℕ) → x < n → (bit bitmap x == 1) ≡ is_some (kids x)
unfolding sum_below
bits_told kids bitmap zero e x h = absurd (omega arith)
bits_told kids bitmap (suc n) e x h =
    let top = top_bit (is_some (kids n)) (bit bitmap n) (bitmap % 2 ^ n) (sum_below (child_bit kids) n) (2 ^ n) (omega arith) (mod_below bitmap (2 ^ n) (pow_pos n)) (bits-lt kids n) (sym (bits_apart bitmap n) ∙ e) in
    elim (cases_lt x n) [
      | inl l ↦ bits_told kids bitmap n top.1 x l
      | inr r ↦ let same : n ≡ x = omega arith in subst (λ y. (bit bitmap y == 1) ≡ is_some (kids y)) same top.0
    ]

-- ---- from a bitmap and digests to children, and back

-- whether bit i is set
set_or_clear : (bitmap i : ℕ) → ((bit bitmap i ≡ 1) × ((bit bitmap i == 1) ≡ true)) ⊎ ((bit bitmap i ≡ 0) × ((bit bitmap i == 1) ≡ false))
set_or_clear bitmap i = elim (cases_eq (bit bitmap i) 1) [
  | inl set ↦ inl (set, eq-eqb _ _ set)
  | inr clear ↦ inr (omega arith, ne_eqb _ _ clear)
]

child_set : (bitmap : ℕ) (digests : List ℕ) (i : ℕ) → (bit bitmap i == 1) ≡ true → child_in bitmap digests i ≡ Some (take 32 (drop (32 * bits_below bitmap i) digests))
child_set bitmap digests i e = ap (λ b. cond b (Some (take 32 (drop (32 * bits_below bitmap i) digests))) None) e

child_clear : (bitmap : ℕ) (digests : List ℕ) (i : ℕ) → (bit bitmap i == 1) ≡ false → child_in bitmap digests i ≡ None
child_clear bitmap digests i e = ap (λ b. cond b (Some (take 32 (drop (32 * bits_below bitmap i) digests))) None) e

-- no bit past the sixteenth is set
pub child_in-past : (bitmap : ℕ) (digests : List ℕ) → bitmap < 2 ^ 16 → (x : ℕ) → 16 ≤ x → child_in bitmap digests x ≡ None
child_in-past bitmap digests small x past =
    let power : 2 ^ 16 ≤ 2 ^ x = pow_mono past in
    let none : bitmap / 2 ^ x ≡ 0 = div-eq_of_lt (omega arith) in
    child_clear bitmap digests x (ne_eqb (bit bitmap x) 1 (λ e. omega arith))

bitmap_back : (bitmap : ℕ) (digests : List ℕ) (n : ℕ) → sum_below (child_bit (child_in bitmap digests)) n ≡ bitmap % 2 ^ n
unfolding sum_below
bitmap_back bitmap digests zero = omega arith
bitmap_back bitmap digests (suc n) =
    let further = bitmap_back bitmap digests n in
    let apart = bits_apart bitmap n in
    elim (set_or_clear bitmap n) [
      | inl (set, e) ↦
          let product : bit bitmap n * 2 ^ n ≡ 1 * 2 ^ n = ap (λ d. d * 2 ^ n) set in
          rw e (omega arith)
      | inr (clear, e) ↦
          let product : bit bitmap n * 2 ^ n ≡ 0 * 2 ^ n = ap (λ d. d * 2 ^ n) clear in
          rw e (omega arith)
    ]

digests_back : (bitmap : ℕ) (digests : List ℕ) (n : ℕ) → joined_below (λ i. child_digest (child_in bitmap digests i)) n ≡ take (32 * bits_below bitmap n) digests
unfolding sum_below joined_below
digests_back bitmap digests zero = refl
digests_back bitmap digests (suc n) =
    let further = digests_back bitmap digests n in
    elim (set_or_clear bitmap n) [
      | inl (set, e) ↦
          let bytes : 32 * bits_below bitmap n + 32 ≡ 32 * (bits_below bitmap n + bit bitmap n) = omega arith in
          ap₂ (λ (xs ys : List ℕ). xs ++ ys) further (ap child_digest (child_set bitmap digests n e)) ∙ sym (take-add (32 * bits_below bitmap n) 32 digests) ∙ ap (λ k. take k digests) bytes
      | inr (clear, e) ↦
          let bytes : 32 * bits_below bitmap n ≡ 32 * (bits_below bitmap n + bit bitmap n) = omega arith in
          ap₂ (λ (xs ys : List ℕ). xs ++ ys) further (ap child_digest (child_clear bitmap digests n e)) ∙ append-nil (take (32 * bits_below bitmap n) digests) ∙ ap (λ k. take k digests) bytes
    ]

bits_below-le : (bitmap m n : ℕ) → m ≤ n → bits_below bitmap m ≤ bits_below bitmap n
unfolding sum_below
bits_below-le bitmap m zero h = let same : m ≡ 0 = omega arith in subst (λ k. bits_below bitmap k ≤ 0) (sym same) (omega arith)
bits_below-le bitmap m (suc n) h = elim (cases_eq m (suc n)) [
  | inl same ↦ subst (λ k. bits_below bitmap k ≤ bits_below bitmap (suc n)) (sym same) (omega arith)
  | inr less ↦ let further = bits_below-le bitmap m n (omega arith) in omega arith
]

pub child_in-digest : (bitmap : ℕ) (digests : List ℕ) → FitsChildren bitmap digests → AreDigests (child_in bitmap digests)
unfolding sum_below
child_in-digest bitmap digests fits x h = elim (set_or_clear bitmap x) [
  | inl (set, e) ↦
      let more : bits_below bitmap x + bit bitmap x ≤ bits_below bitmap 16 = bits_below-le bitmap (suc x) 16 (omega arith) in
      let rest = length-drop (32 * bits_below bitmap x) digests in
      let whole : length (take 32 (drop (32 * bits_below bitmap x) digests)) ≡ 32 = omega (arith, fits.1, length-take 32 (drop (32 * bits_below bitmap x) digests)) in
      subst (λ child. IfSome child IsDigest) (sym (child_set bitmap digests x e)) whole
  | inr (clear, e) ↦ subst (λ child. IfSome child IsDigest) (sym (child_clear bitmap digests x e)) tt
]

pub spelled_children-child_in : (bitmap : ℕ) (digests : List ℕ) → FitsChildren bitmap digests → spelled_children (child_in bitmap digests) ≡ borsh_u16 bitmap ++ digests
unfolding spelled_children
spelled_children-child_in bitmap digests fits =
    ap₂ (λ (n : ℕ) (text : List ℕ). borsh_u16 n ++ text) (bitmap_back bitmap digests 16 ∙ mod-eq_of_lt fits.0) (digests_back bitmap digests 16 ∙ take_all (32 * bits_below bitmap 16) digests (omega (arith, fits.1)))

-- ---- from children to a bitmap and digests, and back

length_digest : (child : Option (List ℕ)) (digit : ℕ) → digit < 2 → (digit == 1) ≡ is_some child → IfSome child IsDigest → length (child_digest child) ≡ 32 * digit
length_digest None digit two e fits = let clear = eqb-false _ _ e in omega arith
length_digest (Some digest) digit two e fits = let set = eqb-true _ _ e in omega (arith, fits)

length_digests : (kids : ℕ → Option (List ℕ)) (bitmap n : ℕ) → ((x : ℕ) → x < n → (bit bitmap x == 1) ≡ is_some (kids x)) → ((x : ℕ) → x < n → IfSome (kids x) IsDigest) → length (joined_below (λ i. child_digest (kids i)) n) ≡ 32 * bits_below bitmap n
unfolding sum_below joined_below
length_digests kids bitmap zero told fits = refl
length_digests kids bitmap (suc n) told fits =
    let further = length_digests kids bitmap n (λ x h. told x (omega arith)) (λ x h. fits x (omega arith)) in
    let last = length_digest (kids n) (bit bitmap n) (omega arith) (told n (omega arith)) (fits n (omega arith)) in
    omega (arith, length-append (joined_below (λ i. child_digest (kids i)) n) (child_digest (kids n)))

pub bitmap_of-fits : (kids : ℕ → Option (List ℕ)) → AreDigests kids → FitsChildren (bitmap_of kids) (digests_of kids)
bitmap_of-fits kids fits =
    let lt : bitmap_of kids < 2 ^ 16 = bits-lt kids 16 in
    (lt, length_digests kids (bitmap_of kids) 16 (bits_told kids (bitmap_of kids) 16 (mod-eq_of_lt lt)) fits)

pub child_in-again : (kids : ℕ → Option (List ℕ)) → AreDigests kids → (x : ℕ) → x < 16 → child_in (bitmap_of kids) (digests_of kids) x ≡ kids x
unfolding spelled_children
child_in-again kids fits =
    let fields = bitmap_of-fits kids fits in
    spelled_children-same (child_in (bitmap_of kids) (digests_of kids)) kids (child_in-digest (bitmap_of kids) (digests_of kids) fields) fits (spelled_children-child_in (bitmap_of kids) (digests_of kids) fields)

-- children that are the same are as many
pub child_count-same : (kids others : ℕ → Option (List ℕ)) → ((x : ℕ) → x < 16 → kids x ≡ others x) → child_count kids ≡ child_count others
unfolding sum_below
child_count-same kids others = go 16
  where
    there : (ℕ → Option (List ℕ)) → ℕ → ℕ
    there kids i = if is_some (kids i) then 1 else 0

    go : (n : ℕ) → ((x : ℕ) → x < n → kids x ≡ others x) → sum_below (there kids) n ≡ sum_below (there others) n
    go zero same = refl
    go (suc n) same = ap₂ (λ (a b : ℕ). a + b) (go n (λ x h. same x (omega arith))) (ap (λ child. if is_some child then 1 else 0) (same n (omega arith)))
