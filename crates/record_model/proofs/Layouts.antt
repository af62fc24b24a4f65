-- The layout that is read is the layout that was spelled, and what was spelled is read again, whatever stands behind it.
use Rattle.std.proofs.Common.{◌≡◌, ℕ, ◌+◌, ◌*◌, ◌^◌, ◌<◌, ◌==◌, true, List, ◌∷◌, ◌++◌, length, None, Some, IfSome, Ok, refl, sym, subst, arith, append_assoc}
use Rattle.std.specs.Prelude.{⊤}
use Rattle.std.proofs.lemmas.Bool.{eqb-true}
use Rattle.byte_model.specs.Nibbles.{AreBytes}
use Rattle.byte_model.specs.Borsh.{borsh_u16, borsh_u32, borsh_u64, borsh_bytes}
use Rattle.byte_model.specs.Node.{ValueRef, spelled_value}
use Rattle.byte_model.specs.Laws.{IsDigest, NamesValue}
use Rattle.record_model.specs.Fields.{Cursor, Read}
use Rattle.record_model.specs.Records.{Layout, leaf, branch, extension, bits_below, value_at, children_at, leaf_at, branch_at, branch_with_value_at, extension_at, kind_at, layout_at}
use Rattle.record_model.proofs.Steps.{Gives, gives, and_then, by_test, Takes, Takes-then}
use Rattle.record_model.proofs.Fields.{behind, bytes_taken, bytes_again, one_byte, two_bytes, four_bytes, eight_bytes, number_taken, number_again, vector_taken, vector_again, digests_taken, digests_again}

-- ---- values and children

pub record TakesValue (c : Cursor) (read : ValueRef × Cursor) : Type 0 where
  pub took : Takes c (spelled_value read.0) read.1
  pub fits : NamesValue read.0

value_taken : (c : Cursor) → AreBytes c.left → Gives (value_at c) (TakesValue c)
unfolding value_at
value_taken c small = and_then (number_taken four_bytes c small) (λ count h. and_then (bytes_taken 32 count.1 h.took.rest) (λ digest k. gives _ (record {
  took = Takes-then h.took k.took;
  fits = (h.fits, k.count);
})))

value_again : (value : ValueRef) (at : ℕ) (rest : List ℕ) → NamesValue value → value_at (record { at = at; left = spelled_value value ++ rest }) ≡ Ok (value, behind (at + 4) 32 rest)
unfolding value_at
value_again value at rest fits =
    rw (append_assoc (borsh_u32 value.length) value.digest rest, number_again four_bytes value.length at (value.digest ++ rest) fits.0, bytes_again 32 value.digest (at + 4) rest fits.1) refl

-- a bitmap, and a digest for each bit that is set
abbrev pub FitsChildren : ℕ → List ℕ → Type 0
FitsChildren bitmap digests = (bitmap < 2 ^ 16) × (length digests ≡ 32 * bits_below bitmap 16)

pub record TakesChildren (c : Cursor) (read : (ℕ × List ℕ) × Cursor) : Type 0 where
  pub took : Takes c (borsh_u16 read.0.0 ++ read.0.1) read.1
  pub fits : FitsChildren read.0.0 read.0.1

children_taken : (c : Cursor) → AreBytes c.left → Gives (children_at c) (TakesChildren c)
unfolding children_at
children_taken c small = and_then (number_taken two_bytes c small) (λ bitmap h. and_then (digests_taken (bits_below bitmap.0 16) bitmap.1 h.took.rest) (λ digests k. gives _ (record {
  took = Takes-then h.took k.took;
  fits = (h.fits, k.count);
})))

children_again : (bitmap : ℕ) (digests : List ℕ) (at : ℕ) (rest : List ℕ) → FitsChildren bitmap digests → children_at (record { at = at; left = (borsh_u16 bitmap ++ digests) ++ rest }) ≡ Ok ((bitmap, digests), behind (at + 2) (32 * bits_below bitmap 16) rest)
unfolding children_at
children_again bitmap digests at rest fits =
    rw (append_assoc (borsh_u16 bitmap) digests rest, number_again two_bytes bitmap at (digests ++ rest) fits.0, digests_again (bits_below bitmap 16) digests (at + 2) rest fits.1) refl

-- ---- layouts

abbrev pub ordinal_of : Layout → ℕ
ordinal_of (leaf packed value) = 0
ordinal_of (branch None bitmap digests) = 1
ordinal_of (branch (Some value) bitmap digests) = 2
ordinal_of (extension packed child) = 3

-- the fields behind the ordinal
abbrev pub spelled_fields : Layout → List ℕ
spelled_fields (leaf packed value) = borsh_bytes packed ++ spelled_value value
spelled_fields (branch None bitmap digests) = borsh_u16 bitmap ++ digests
spelled_fields (branch (Some value) bitmap digests) = spelled_value value ++ (borsh_u16 bitmap ++ digests)
spelled_fields (extension packed child) = borsh_bytes packed ++ child

-- the bytes of a layout and a usage
abbrev pub spelled_layout : Layout → ℕ → List ℕ
spelled_layout layout usage = ordinal_of layout ∷ (spelled_fields layout ++ borsh_u64 usage)

-- each part fits its field
abbrev pub FitsLayout : Layout → Type 0
FitsLayout (leaf packed value) = (length packed < 2 ^ 32) × NamesValue value
FitsLayout (branch value bitmap digests) = IfSome value NamesValue × FitsChildren bitmap digests
FitsLayout (extension packed child) = (length packed < 2 ^ 32) × IsDigest child

abbrev pub HasPathBytes : Layout → Type 0
HasPathBytes (leaf packed value) = AreBytes packed
HasPathBytes (branch value bitmap digests) = ⊤
HasPathBytes (extension packed child) = AreBytes packed

-- ---- what is read was spelled

pub record TakesFields (kind : ℕ) (c : Cursor) (read : Layout × Cursor) : Type 0 where
  pub took : Takes c (spelled_fields read.0) read.1
  pub kind_is : ordinal_of read.0 ≡ kind
  pub fits : FitsLayout read.0
  pub path : HasPathBytes read.0

leaf_taken : (c : Cursor) → AreBytes c.left → Gives (leaf_at c) (TakesFields 0 c)
unfolding leaf_at
leaf_taken c small = and_then (vector_taken c small) (λ packed h. and_then (value_taken packed.1 h.took.rest) (λ value k. gives _ (record {
  took = Takes-then h.took k.took;
  kind_is = refl;
  fits = (h.fits, k.fits);
  path = h.small;
})))

branch_taken : (c : Cursor) → AreBytes c.left → Gives (branch_at c) (TakesFields 1 c)
unfolding branch_at
branch_taken c small = and_then (children_taken c small) (λ kids h. gives _ (record {
  took = h.took;
  kind_is = refl;
  fits = (tt, h.fits);
  path = tt;
}))

branch_with_value_taken : (c : Cursor) → AreBytes c.left → Gives (branch_with_value_at c) (TakesFields 2 c)
unfolding branch_with_value_at
branch_with_value_taken c small = and_then (value_taken c small) (λ value h. and_then (children_taken value.1 h.took.rest) (λ kids k. gives _ (record {
  took = Takes-then h.took k.took;
  kind_is = refl;
  fits = (h.fits, k.fits);
  path = tt;
})))

extension_taken : (c : Cursor) → AreBytes c.left → Gives (extension_at c) (TakesFields 3 c)
unfolding extension_at
extension_taken c small = and_then (vector_taken c small) (λ packed h. and_then (bytes_taken 32 packed.1 h.took.rest) (λ child k. gives _ (record {
  took = Takes-then h.took k.took;
  kind_is = refl;
  fits = (h.fits, k.count);
  path = h.small;
})))

kind_taken : (offset kind : ℕ) (c : Cursor) → AreBytes c.left → Gives (kind_at offset kind c) (TakesFields kind c)
unfolding kind_at
kind_taken offset kind c small =
    by_test (kind == 0) (λ e. of e (leaf_taken c small)) (λ _.
    by_test (kind == 1) (λ e. of e (branch_taken c small)) (λ _.
    by_test (kind == 2) (λ e. of e (branch_with_value_taken c small)) (λ _.
    by_test (kind == 3) (λ e. of e (extension_taken c small)) (λ _. record { given = tt }))))
  where
    of : {n : ℕ} {read : Read Layout} → (kind == n) ≡ true → Gives read (TakesFields n c) → Gives read (TakesFields kind c)
    of {n} {read} e h = subst (λ k. Gives read (TakesFields k c)) (sym (eqb-true kind n e)) h

pub record TakesLayout (c : Cursor) (read : (Layout × ℕ) × Cursor) : Type 0 where
  pub took : Takes c (spelled_layout read.0.0 read.0.1) read.1
  pub fits : FitsLayout read.0.0
  pub path : HasPathBytes read.0.0
  pub usage_fits : read.0.1 < 2 ^ 64

pub layout_taken : (c : Cursor) → AreBytes c.left → Gives (layout_at c) (TakesLayout c)
unfolding layout_at
layout_taken c small = and_then (number_taken one_byte c small) (λ kind h. and_then (kind_taken c.at kind.0 kind.1 h.took.rest) (λ fields k. and_then (number_taken eight_bytes fields.1 k.took.rest) (λ usage l. gives _ (record {
  took = subst (λ n. Takes c (n ∷ (spelled_fields fields.0 ++ borsh_u64 usage.0)) usage.1) (sym k.kind_is) (Takes-then h.took (Takes-then k.took l.took));
  fits = k.fits;
  path = k.path;
  usage_fits = l.fits;
}))))

-- ---- what was spelled is read again

fields_again : (layout : Layout) (offset at : ℕ) (rest : List ℕ) → FitsLayout layout → (end : ℕ) × (kind_at offset (ordinal_of layout) (record { at = at; left = spelled_fields layout ++ rest }) ≡ Ok (layout, record { at = end; left = rest }))
unfolding kind_at leaf_at branch_at branch_with_value_at extension_at
fields_again (leaf packed value) offset at rest fits =
    (at + 4 + length packed + 4 + 32, rw (append_assoc (borsh_bytes packed) (spelled_value value) rest, vector_again packed at (spelled_value value ++ rest) fits.0, value_again value (at + 4 + length packed) rest fits.1) refl)
fields_again (branch None bitmap digests) offset at rest fits =
    (at + 2 + 32 * bits_below bitmap 16, rw (children_again bitmap digests at rest fits.1) refl)
fields_again (branch (Some value) bitmap digests) offset at rest fits =
    (at + 4 + 32 + 2 + 32 * bits_below bitmap 16, rw (append_assoc (spelled_value value) (borsh_u16 bitmap ++ digests) rest, value_again value at ((borsh_u16 bitmap ++ digests) ++ rest) fits.0, children_again bitmap digests (at + 4 + 32) rest fits.1) refl)
fields_again (extension packed child) offset at rest fits =
    (at + 4 + length packed + 32, rw (append_assoc (borsh_bytes packed) child rest, vector_again packed at (child ++ rest) fits.0, bytes_again 32 child (at + 4 + length packed) rest fits.1) refl)

small_ordinal : (layout : Layout) → ordinal_of layout < 2 ^ 8
small_ordinal (leaf packed value) = omega arith
small_ordinal (branch None bitmap digests) = omega arith
small_ordinal (branch (Some value) bitmap digests) = omega arith
small_ordinal (extension packed child) = omega arith

pub layout_again : (layout : Layout) (usage at : ℕ) (rest : List ℕ) → FitsLayout layout → usage < 2 ^ 64 → (end : ℕ) × (layout_at (record { at = at; left = spelled_layout layout usage ++ rest }) ≡ Ok ((layout, usage), record { at = end; left = rest }))
unfolding layout_at
layout_again layout usage at rest fits lt =
    let fields = fields_again layout at (at + 1) (borsh_u64 usage ++ rest) fits in
    (fields.0 + 8, rw (number_again one_byte (ordinal_of layout) at ((spelled_fields layout ++ borsh_u64 usage) ++ rest) (small_ordinal layout), append_assoc (spelled_fields layout) (borsh_u64 usage) rest, fields.1, number_again eight_bytes usage fields.0 rest lt) refl)
