-- No two nodes are spelled alike. All fields but the path have fixed widths, so the parts of a record are told from its two ends.
use Rattle.std.proofs.Common.{◌≡◌, ℕ, zero, suc, ◌+◌, ◌*◌, ◌^◌, ◌<◌, Bool, true, false, if◌then◌else◌, List, [], ◌∷◌, ◌++◌, length, Option, None, Some, IfSome, is_some, refl, sym, ◌∙◌, ap, ap₂, subst, inl, inr, arith, length-append, pow-suc}
use Rattle.std.proofs.lemmas.Bool.{cases_lt}
use Rattle.byte_model.specs.Borsh.{borsh_u16, borsh_u32, borsh_u64, borsh_bytes}
use Rattle.byte_model.specs.Below.{sum_below, joined_below}
use Rattle.byte_model.specs.Nibbles.{AreNibbles}
use Rattle.byte_model.specs.PackedPath.{packed}
use Rattle.byte_model.specs.Node.{ValueRef, Node, leaf, branch, extension, spelled_value, child_bit, child_digest, spelled_children, spelled}
use Rattle.byte_model.specs.Laws.{IsDigest, NamesValue, FitsRecord, SameNode}
use Rattle.byte_model.proofs.Lists.{first_same, rest_same}
use Rattle.byte_model.proofs.Widths.{length-borsh_u16, length-borsh_u32, length-borsh_u64, borsh_u16-same, borsh_u32-same, borsh_u64-same}
use Rattle.byte_model.proofs.Paths.{packed-same}
use Rattle.byte_model.proofs.Below.{sum_below-agree, joined_below-agree}

-- two lists joined are told apart where the prefixes are as long
pub split_prefix : (xs ys us vs : List ℕ) → length xs ≡ length ys → xs ++ us ≡ ys ++ vs → (xs ≡ ys) × (us ≡ vs)
split_prefix [] [] us vs same e = (refl, e)
split_prefix [] (y ∷ ys) us vs same e = absurd (omega arith)
split_prefix (x ∷ xs) [] us vs same e = absurd (omega arith)
split_prefix (x ∷ xs) (y ∷ ys) us vs same e =
    let further = split_prefix xs ys us vs (omega arith) (rest_same e) in
    (ap₂ (λ (n : ℕ) (ns : List ℕ). n ∷ ns) (first_same e) further.0, further.1)

-- and where the ends are
pub split_end : (xs ys us vs : List ℕ) → length us ≡ length vs → xs ++ us ≡ ys ++ vs → (xs ≡ ys) × (us ≡ vs)
split_end xs ys us vs same e =
    let left = length-append xs us in
    let right = length-append ys vs in
    let whole = ap length e in
    split_prefix xs ys us vs (omega arith) e

-- ---- values

length-spelled_value : (value : ValueRef) → IsDigest value.digest → length (spelled_value value) ≡ 36
length-spelled_value value h =
    let n = length-append (borsh_u32 value.length) value.digest in
    let four = length-borsh_u32 value.length in
    omega arith

spelled_value-same : (v w : ValueRef) → NamesValue v → NamesValue w → spelled_value v ≡ spelled_value w → v ≡ w
spelled_value-same v w h k e =
    let parts = split_prefix (borsh_u32 v.length) (borsh_u32 w.length) v.digest w.digest (length-borsh_u32 v.length ∙ sym (length-borsh_u32 w.length)) e in
    let same = borsh_u32-same v.length w.length h.0 k.0 parts.0 in
    λ i. record { length = same i; digest = parts.1 i }

-- ---- paths

vector_same : (p q : List ℕ) → borsh_bytes p ≡ borsh_bytes q → p ≡ q
vector_same p q e = (split_prefix (borsh_u32 (length p)) (borsh_u32 (length q)) p q (length-borsh_u32 (length p) ∙ sym (length-borsh_u32 (length q))) e).1

-- ---- children

-- the bits of the children below n are less than 2 ^ n
pub bits-lt : (kids : ℕ → Option (List ℕ)) (n : ℕ) → sum_below (child_bit kids) n < 2 ^ n
unfolding sum_below
bits-lt kids zero = omega arith
bits-lt kids (suc n) =
    let further = bits-lt kids n in
    let power : 2 ^ suc n ≡ 2 ^ n * 2 = pow-suc 2 n in
    elim (is_some (kids n)) as (λ b. sum_below (child_bit kids) n + (if b then 2 ^ n else 0) < 2 ^ suc n) [
      | true ↦ omega arith
      | false ↦ omega arith
    ]

-- so their sum tells each
bits_same : (f g : ℕ → Option (List ℕ)) (n : ℕ) → sum_below (child_bit f) n ≡ sum_below (child_bit g) n → (x : ℕ) → x < n → is_some (f x) ≡ is_some (g x)
unfolding sum_below
bits_same f g zero e x h = absurd (omega arith)
bits_same f g (suc n) e x h =
    let top = top_bit (is_some (f n)) (is_some (g n)) (sum_below (child_bit f) n) (sum_below (child_bit g) n) (2 ^ n) (bits-lt f n) (bits-lt g n) e in
    elim (cases_lt x n) [
      | inl l ↦ bits_same f g n top.1 x l
      | inr r ↦ let same : n ≡ x = omega arith in subst (λ y. is_some (f y) ≡ is_some (g y)) same top.0
    ]
  where
    top_bit : (a b : Bool) (m n power : ℕ) → m < power → n < power → m + (if a then power else 0) ≡ n + (if b then power else 0) → (a ≡ b) × (m ≡ n)
    top_bit true true m n power h k e = (refl, omega arith)
    top_bit true false m n power h k e = absurd (omega arith)
    top_bit false true m n power h k e = absurd (omega arith)
    top_bit false false m n power h k e = (refl, omega arith)

child_same : (a b : Option (List ℕ)) → is_some a ≡ is_some b → child_digest a ≡ child_digest b → a ≡ b
child_same None None h e = refl
child_same None (Some y) h e = cc
child_same (Some x) None h e = cc
child_same (Some x) (Some y) h e = ap (λ (z : List ℕ). Some z) e

child_lengths : (a b : Option (List ℕ)) → is_some a ≡ is_some b → IfSome a IsDigest → IfSome b IsDigest → length (child_digest a) ≡ length (child_digest b)
child_lengths None None h k l = refl
child_lengths None (Some y) h k l = cc
child_lengths (Some x) None h k l = cc
child_lengths (Some x) (Some y) h k l = k ∙ sym l

digests_same : (f g : ℕ → Option (List ℕ)) (n : ℕ) → ((x : ℕ) → x < n → is_some (f x) ≡ is_some (g x)) → ((x : ℕ) → x < n → IfSome (f x) IsDigest) → ((x : ℕ) → x < n → IfSome (g x) IsDigest) → joined_below (λ x. child_digest (f x)) n ≡ joined_below (λ x. child_digest (g x)) n → (x : ℕ) → x < n → f x ≡ g x
unfolding joined_below
digests_same f g zero there fits fits' e x h = absurd (omega arith)
digests_same f g (suc n) there fits fits' e x h =
    let here = there n (omega arith) in
    let parts = split_end (joined_below (λ y. child_digest (f y)) n) (joined_below (λ y. child_digest (g y)) n) (child_digest (f n)) (child_digest (g n)) (child_lengths (f n) (g n) here (fits n (omega arith)) (fits' n (omega arith))) e in
    elim (cases_lt x n) [
      | inl l ↦ digests_same f g n (λ y k. there y (omega arith)) (λ y k. fits y (omega arith)) (λ y k. fits' y (omega arith)) parts.0 x l
      | inr r ↦ let same : n ≡ x = omega arith in subst (λ y. f y ≡ g y) same (child_same (f n) (g n) here parts.1)
    ]

pub spelled_children-same : (f g : ℕ → Option (List ℕ)) → ((x : ℕ) → x < 16 → IfSome (f x) IsDigest) → ((x : ℕ) → x < 16 → IfSome (g x) IsDigest) → spelled_children f ≡ spelled_children g → (x : ℕ) → x < 16 → f x ≡ g x
unfolding spelled_children
spelled_children-same f g fits fits' e =
    let bitmap : (ℕ → Option (List ℕ)) → ℕ = λ kids. sum_below (child_bit kids) 16 in
    let parts = split_prefix (borsh_u16 (bitmap f)) (borsh_u16 (bitmap g)) _ _ (length-borsh_u16 (bitmap f) ∙ sym (length-borsh_u16 (bitmap g))) e in
    let there = bits_same f g 16 (borsh_u16-same (bitmap f) (bitmap g) (bits-lt f 16) (bits-lt g 16) parts.0) in
    digests_same f g 16 there fits fits' parts.1

-- what is spelled of children does not depend on any further on
pub spelled_children-agree : (f g : ℕ → Option (List ℕ)) → ((x : ℕ) → x < 16 → f x ≡ g x) → spelled_children f ≡ spelled_children g
unfolding spelled_children
spelled_children-agree f g same =
    ap₂ (λ (bits : ℕ) (digests : List ℕ). borsh_u16 bits ++ digests)
    (sum_below-agree (child_bit f) (child_bit g) 16 (λ x small. ap (λ o. if is_some o then 2 ^ x else 0) (same x small)))
    (joined_below-agree (λ x. child_digest (f x)) (λ x. child_digest (g x)) 16 (λ x small. ap child_digest (same x small)))

-- ---- nodes

pub spelled_branch-agree : (ref : Option ValueRef) (f g : ℕ → Option (List ℕ)) (used : ℕ) → ((x : ℕ) → x < 16 → f x ≡ g x) → spelled (branch ref f) used ≡ spelled (branch ref g) used
unfolding spelled
spelled_branch-agree None f g used same = ap (λ (children : List ℕ). 1 ∷ children ++ borsh_u64 used) (spelled_children-agree f g same)
spelled_branch-agree (Some ref) f g used same = ap (λ (children : List ℕ). 2 ∷ spelled_value ref ++ children ++ borsh_u64 used) (spelled_children-agree f g same)

-- the first byte tells the kind of a node
abbrev ordinal : Node → ℕ
ordinal (leaf path value) = 0
ordinal (branch None kids) = 1
ordinal (branch (Some value) kids) = 2
ordinal (extension path child) = 3

without_ordinal : (node : Node) (usage : ℕ) → (rest : List ℕ) × (spelled node usage ≡ ordinal node ∷ rest)
unfolding spelled
without_ordinal (leaf path value) usage = (borsh_bytes (packed true path) ++ spelled_value value ++ borsh_u64 usage, refl)
without_ordinal (branch None kids) usage = (spelled_children kids ++ borsh_u64 usage, refl)
without_ordinal (branch (Some value) kids) usage = (spelled_value value ++ spelled_children kids ++ borsh_u64 usage, refl)
without_ordinal (extension path child) usage = (borsh_bytes (packed false path) ++ child ++ borsh_u64 usage, refl)

ordinal_same : (m n : Node) (u v : ℕ) → spelled m u ≡ spelled n v → ordinal m ≡ ordinal n
ordinal_same m n u v e = first_same (sym (without_ordinal m u).1 ∙ e ∙ (without_ordinal n v).1)

-- the usage stands at the end
usage_apart : (xs ys : List ℕ) (u v : ℕ) → xs ++ borsh_u64 u ≡ ys ++ borsh_u64 v → (xs ≡ ys) × (borsh_u64 u ≡ borsh_u64 v)
usage_apart xs ys u v e = split_end xs ys (borsh_u64 u) (borsh_u64 v) (length-borsh_u64 u ∙ sym (length-borsh_u64 v)) e

leaf_same : (p q : List ℕ) (v w : ValueRef) → AreNibbles p → AreNibbles q → NamesValue v → NamesValue w → (0 ∷ borsh_bytes (packed true p)) ++ spelled_value v ≡ (0 ∷ borsh_bytes (packed true q)) ++ spelled_value w → (p ≡ q) × (v ≡ w)
leaf_same p q v w h k small small' e =
    let parts = split_end (0 ∷ borsh_bytes (packed true p)) (0 ∷ borsh_bytes (packed true q)) (spelled_value v) (spelled_value w) (length-spelled_value v small.1 ∙ sym (length-spelled_value w small'.1)) e in
    ((packed-same true true p q h k (vector_same (packed true p) (packed true q) (rest_same parts.0))).1, spelled_value-same v w small small' parts.1)

extension_same : (p q child other : List ℕ) → AreNibbles p → AreNibbles q → IsDigest child → IsDigest other → (3 ∷ borsh_bytes (packed false p)) ++ child ≡ (3 ∷ borsh_bytes (packed false q)) ++ other → (p ≡ q) × (child ≡ other)
extension_same p q child other h k digest digest' e =
    let parts = split_end (3 ∷ borsh_bytes (packed false p)) (3 ∷ borsh_bytes (packed false q)) child other (digest ∙ sym digest') e in
    ((packed-same false false p q h k (vector_same (packed false p) (packed false q) (rest_same parts.0))).1, parts.1)

branch_same : (v w : ValueRef) (f g : ℕ → Option (List ℕ)) → NamesValue v → NamesValue w → (2 ∷ spelled_value v) ++ spelled_children f ≡ (2 ∷ spelled_value w) ++ spelled_children g → (v ≡ w) × (spelled_children f ≡ spelled_children g)
branch_same v w f g small small' e =
    let one = length-spelled_value v small.1 in
    let two = length-spelled_value w small'.1 in
    let parts = split_prefix (2 ∷ spelled_value v) (2 ∷ spelled_value w) (spelled_children f) (spelled_children g) (omega arith) e in
    (spelled_value-same v w small small' (rest_same parts.0), parts.1)

-- nodes of one kind
same_kind : (m n : Node) (u v : ℕ) → ordinal m ≡ ordinal n → FitsRecord m → FitsRecord n → spelled m u ≡ spelled n v → SameNode m n × (borsh_u64 u ≡ borsh_u64 v)
unfolding spelled
same_kind (leaf p v) (leaf q w) a b o h k e =
    let parts = usage_apart ((0 ∷ borsh_bytes (packed true p)) ++ spelled_value v) ((0 ∷ borsh_bytes (packed true q)) ++ spelled_value w) a b e in
    (leaf_same p q v w h.0 k.0 h.1 k.1 parts.0, parts.1)
same_kind (branch None f) (branch None g) a b o h k e =
    let parts = usage_apart (1 ∷ spelled_children f) (1 ∷ spelled_children g) a b e in
    ((refl, spelled_children-same f g h.1 k.1 (rest_same parts.0)), parts.1)
same_kind (branch (Some v) f) (branch (Some w) g) a b o h k e =
    let parts = usage_apart ((2 ∷ spelled_value v) ++ spelled_children f) ((2 ∷ spelled_value w) ++ spelled_children g) a b e in
    let node = branch_same v w f g h.0 k.0 parts.0 in
    ((ap (λ (r : ValueRef). Some r) node.0, spelled_children-same f g h.1 k.1 node.1), parts.1)
same_kind (extension p child) (extension q other) a b o h k e =
    let parts = usage_apart ((3 ∷ borsh_bytes (packed false p)) ++ child) ((3 ∷ borsh_bytes (packed false q)) ++ other) a b e in
    (extension_same p q child other h.0 k.0 h.1 k.1 parts.0, parts.1)
same_kind (leaf p v) (branch None g) a b o h k e = absurd (omega arith)
same_kind (leaf p v) (branch (Some w) g) a b o h k e = absurd (omega arith)
same_kind (leaf p v) (extension q child) a b o h k e = absurd (omega arith)
same_kind (branch None f) (leaf q w) a b o h k e = absurd (omega arith)
same_kind (branch None f) (branch (Some w) g) a b o h k e = absurd (omega arith)
same_kind (branch None f) (extension q child) a b o h k e = absurd (omega arith)
same_kind (branch (Some v) f) (leaf q w) a b o h k e = absurd (omega arith)
same_kind (branch (Some v) f) (branch None g) a b o h k e = absurd (omega arith)
same_kind (branch (Some v) f) (extension q child) a b o h k e = absurd (omega arith)
same_kind (extension p child) (leaf q w) a b o h k e = absurd (omega arith)
same_kind (extension p child) (branch None g) a b o h k e = absurd (omega arith)
same_kind (extension p child) (branch (Some w) g) a b o h k e = absurd (omega arith)

-- whatever the usages are
pub spelled-same_node : (m n : Node) (u v : ℕ) → FitsRecord m → FitsRecord n → spelled m u ≡ spelled n v → SameNode m n
spelled-same_node m n u v h k e = (same_kind m n u v (ordinal_same m n u v e) h k e).0

pub spelled-same : (m n : Node) (u v : ℕ) → FitsRecord m → FitsRecord n → u < 2 ^ 64 → v < 2 ^ 64 → spelled m u ≡ spelled n v → SameNode m n × (u ≡ v)
spelled-same m n u v h k s t e =
    let parts = same_kind m n u v (ordinal_same m n u v e) h k e in
    (parts.0, borsh_u64-same u v s t parts.1)
