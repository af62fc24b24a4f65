-- Reading so many digests, one after the other, is reading all their bytes at once. Where the bytes end before, the digest that is not whole is the fault.
use Rattle.std.proofs.Common.{◌≡◌, ℕ, zero, suc, ◌+◌, ◌-◌, ◌*◌, ◌/◌, ◌<◌, ◌≤◌, ◌⊎◌, inl, inr, true, false, if◌then◌else◌, List, [], ◌++◌, length, take, drop, Ok, Err, sym, ◌∙◌, ap, arith, take-add}
use Rattle.std.specs.Prelude.{nat_lt}
use Rattle.std.proofs.lemmas.Bool.{cases_lt, lt-ltb, le-ltb}
use Rattle.std.proofs.lemmas.List.{drop-drop, length-drop}
use Rattle.record_model.specs.Fields.{short, Cursor, Read, bytes_at, digests_at}

-- what reading n digests gives
abbrev pub digests_read : ℕ → Cursor → Read (List ℕ)
digests_read n c =
    if nat_lt (length c.left) (32 * n) then Err (short (c.at + length c.left / 32 * 32))
    else Ok (take (32 * n) c.left, record { at = c.at + 32 * n; left = drop (32 * n) c.left })

abbrev behind_one : Cursor → Cursor
behind_one c = record { at = c.at + 32; left = drop 32 c.left }

-- the first of them is not whole
none_read : (n : ℕ) (c : Cursor) → length c.left < 32 → digests_at (suc n) c ≡ digests_read (suc n) c
unfolding digests_at bytes_at
none_read n c less =
    let here : nat_lt (length c.left) 32 ≡ true = lt-ltb _ _ less in
    let whole : nat_lt (length c.left) (32 * suc n) ≡ true = lt-ltb _ _ (omega arith) in
    let offset : c.at ≡ c.at + length c.left / 32 * 32 = omega arith in
    rw (here, whole) (ap (λ a. Err (short a)) offset)

-- the first, and then the others
one_read : (n : ℕ) (c : Cursor) → 32 ≤ length c.left → digests_at n (behind_one c) ≡ digests_read n (behind_one c) → digests_at (suc n) c ≡ digests_read (suc n) c
unfolding digests_at bytes_at
one_read n c more others = go (cases_lt (length c.left) (32 * suc n))
  where
    here : nat_lt (length c.left) 32 ≡ false
    here = le-ltb _ _ more

    left : length (drop 32 c.left) ≡ length c.left - 32
    left = length-drop 32 c.left

    go : (length c.left < 32 * suc n) ⊎ (32 * suc n ≤ length c.left) → digests_at (suc n) c ≡ digests_read (suc n) c
    go (inl less) =
        let whole : nat_lt (length c.left) (32 * suc n) ≡ true = lt-ltb _ _ less in
        let rest : nat_lt (length (drop 32 c.left)) (32 * n) ≡ true = lt-ltb _ _ (omega (arith, left)) in
        let offset : c.at + 32 + length (drop 32 c.left) / 32 * 32 ≡ c.at + length c.left / 32 * 32 = omega (arith, left) in
        rw (here, others, whole, rest) (ap (λ a. Err (short a)) offset)
    go (inr enough) =
        let whole : nat_lt (length c.left) (32 * suc n) ≡ false = le-ltb _ _ enough in
        let rest : nat_lt (length (drop 32 c.left)) (32 * n) ≡ false = le-ltb _ _ (omega (arith, left)) in
        let bytes : 32 + 32 * n ≡ 32 * suc n = omega arith in
        let text : take 32 c.left ++ take (32 * n) (drop 32 c.left) ≡ take (32 * suc n) c.left = sym (take-add 32 (32 * n) c.left) ∙ ap (λ k. take k c.left) bytes in
        let behind : drop (32 * n) (drop 32 c.left) ≡ drop (32 * suc n) c.left = drop-drop (32 * n) 32 c.left ∙ ap (λ k. drop k c.left) bytes in
        let offset : c.at + 32 + 32 * n ≡ c.at + 32 * suc n = omega arith in
        rw (here, others, whole, rest) (λ i. Ok (text i, record { at = offset i; left = behind i }))

pub digests_at-is : (n : ℕ) (c : Cursor) → digests_at n c ≡ digests_read n c
unfolding digests_at
digests_at-is zero c =
    let here : nat_lt (length c.left) 0 ≡ false = le-ltb _ _ (omega arith) in
    let offset : c.at ≡ c.at + 0 = omega arith in
    rw here (λ i. Ok ([], record { at = offset i; left = c.left }))
digests_at-is (suc n) c = elim (cases_lt (length c.left) 32) [
  | inl less ↦ none_read n c less
  | inr more ↦ one_read n c more (digests_at-is n (behind_one c))
]
