-- The children of a branch, one nibble after another.
use Rattle.std.proofs.Common.{ℕ, zero, suc, ◌+◌, ◌*◌, ◌%◌, ◌^◌, ◌<◌, ◌≤◌, ◌≡◌, Bool, true, false, cond, List, ◌++◌, length, take, get_or, Option, None, Some, refl, ap, sym, ◌∙◌, arith, bit_or}
use Rattle.std.specs.Option.{is_some, option_map}
use Rattle.std.specs.List.{count_by}
use Rattle.std.proofs.Math.Nat.{mod-eq_of_lt}
use Rattle.std.proofs.Math.Pow.{pow-lt}
use Rattle.std.proofs.lemmas.Nat.{or_comm, or_shifted}
use Rattle.std.proofs.lemmas.List.{append-nil, take_all}
use Rattle.std.proofs.lemmas.List.Sums.{count_by_more_yes, count_by_more_no}
use Rattle.byte_model.specs.Below.{sum_below, joined_below}
use Rattle.byte_model.specs.Node.{child_bit, child_digest, child_count}
use Rattle.byte_model.proofs.Below.{sum_below-more, joined_below-more}
use Rattle.byte_model.proofs.Spellings.{bits-lt}
use Rattle.base_core.specs.declared.hash.Digest.{Digest}
use Rattle.node_codec.specs.Meanings.{children_in}

-- whether a child is there, as the record sees it
is_some-children_in : (kids : List (Option Digest)) (i : ℕ) → is_some (children_in kids i) ≡ is_some (get_or kids i None)
is_some-children_in kids i = same (get_or kids i None)
  where
    same : (child : Option Digest) → is_some (option_map (λ digest. digest.0) child) ≡ is_some child
    same None = refl
    same (Some digest) = refl

-- a bit above all others is put by `|`
bit_or-next : (bits i : ℕ) → i < 16 → bits < 2 ^ i → bit_or bits (1 * 2 ^ i % 65536) ≡ bits + 2 ^ i
bit_or-next bits i within below =
    let small : 1 * 2 ^ i < 65536 = omega (arith, pow-lt within) in
    let bit : 1 * 2 ^ i % 65536 ≡ 1 * 2 ^ i = mod-eq_of_lt small in
    ap (λ n. bit_or bits n) bit ∙ (or_comm bits (1 * 2 ^ i) ∙ (or_shifted 1 i bits below ∙ omega arith))

-- one more bit, where a child is there and where none is
pub bits-some : (kids : List (Option Digest)) (i bits : ℕ) → i < 16 → bits ≡ sum_below (child_bit (children_in kids)) i → is_some (get_or kids i None) ≡ true → bit_or bits (1 * 2 ^ i % 65536) ≡ sum_below (child_bit (children_in kids)) (i + 1)
bits-some kids i bits within is there =
    let below : bits < 2 ^ i = rw is (bits-lt (children_in kids) i) in
    let bit : child_bit (children_in kids) i ≡ 2 ^ i = ap (λ b. cond b (2 ^ i) 0) (is_some-children_in kids i ∙ there) in
    bit_or-next bits i within below ∙ omega (arith, sum_below-more (child_bit (children_in kids)) i, bit, is)

pub bits-none : (kids : List (Option Digest)) (i bits : ℕ) → bits ≡ sum_below (child_bit (children_in kids)) i → is_some (get_or kids i None) ≡ false → bits ≡ sum_below (child_bit (children_in kids)) (i + 1)
bits-none kids i bits is there =
    let bit : child_bit (children_in kids) i ≡ 0 = ap (λ b. cond b (2 ^ i) 0) (is_some-children_in kids i ∙ there) in
    omega (arith, sum_below-more (child_bit (children_in kids)) i, bit, is)

-- one more digest, where a child is there and where none is
pub digests-some : (kids : List (Option Digest)) (i : ℕ) (digest : Digest) → get_or kids i None ≡ Some digest → joined_below (λ n. child_digest (children_in kids n)) (i + 1) ≡ joined_below (λ n. child_digest (children_in kids n)) i ++ digest.0
digests-some kids i digest is =
    joined_below-more (λ n. child_digest (children_in kids n)) i
    ∙ ap (λ child. joined_below (λ n. child_digest (children_in kids n)) i ++ child_digest (option_map (λ d. d.0) child)) is

pub digests-none : (kids : List (Option Digest)) (i : ℕ) → get_or kids i None ≡ None → joined_below (λ n. child_digest (children_in kids n)) (i + 1) ≡ joined_below (λ n. child_digest (children_in kids n)) i
digests-none kids i is =
    joined_below-more (λ n. child_digest (children_in kids n)) i
    ∙ (ap (λ child. joined_below (λ n. child_digest (children_in kids n)) i ++ child_digest (option_map (λ d. d.0) child)) is
    ∙ append-nil (joined_below (λ n. child_digest (children_in kids n)) i))

-- how many of the first n are there
count_by-below : (kids : List (Option Digest)) (n : ℕ) → n ≤ length kids → count_by is_some (take n kids) ≡ sum_below (λ i. cond (is_some (children_in kids i)) 1 0) n
unfolding sum_below
count_by-below kids zero within = refl
count_by-below kids (suc n) within =
    let before = count_by-below kids n (omega arith) in
    let one : n + 1 ≡ suc n = omega arith in
    ap (λ m. count_by is_some (take m kids)) (sym one)
    ∙ (here (is_some (get_or kids n None)) refl ∙ (ap (λ m. m + cond (is_some (get_or kids n None)) 1 0) before
    ∙ ap (λ there. sum_below (λ i. cond (is_some (children_in kids i)) 1 0) n + cond there 1 0) (sym (is_some-children_in kids n))))
  where
    here : (there : Bool) → is_some (get_or kids n None) ≡ there → count_by is_some (take (n + 1) kids) ≡ count_by is_some (take n kids) + cond there 1 0
    here true is = count_by_more_yes is_some kids n None within is
    here false is = count_by_more_no is_some kids n None within is ∙ omega arith

pub count_by-kids : (kids : List (Option Digest)) → length kids ≡ 16 → count_by is_some kids ≡ child_count (children_in kids)
count_by-kids kids sixteen = ap (λ l. count_by is_some l) (sym (take_all 16 kids (omega arith))) ∙ count_by-below kids 16 (omega arith)
