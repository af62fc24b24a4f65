-- Reading so many digests at once.
use Rattle.std.proofs.Common.{◌≡◌, ℕ, ◌+◌, ◌*◌, ◌/◌, ◌<◌, ◌≤◌, true, false, length, take, drop, Result, Ok, Err, refl, sym, ◌∙◌, arith}
use Rattle.std.specs.Prelude.{nat_lt}
use Rattle.std.proofs.lemmas.Bool.{lt-ltb, le-ltb}
use Rattle.record_model.specs.Fields.{Cursor, Read, short, bytes_at, digests_at}
use Rattle.record_model.proofs.Digests.{digests_at-is}
use Rattle.base_core.specs.Reading.{Reads, Follows}
use Rattle.base_core.specs.declared.borsh_error.BorshError.{BorshError}

-- two readings that give the same here
pub Follows-same : {X Y : Type 0} (view : X → Y) (result : Result X BorshError) (old new : Cursor) (f g : Cursor → Read Y) → f old ≡ g old → Reads view result old new f → Follows view result old new g
Follows-same view (Ok x) old new f g same read = sym same ∙ read
Follows-same view (Err e) old new f g same read = sym same ∙ read.0

-- where all of them are there
pub digests-whole : (n : ℕ) (c : Cursor) → n ≤ length c.left / 32 → bytes_at (n * 32) c ≡ digests_at n c
unfolding bytes_at
digests-whole n c enough =
    let order : n * 32 ≡ 32 * n = omega arith in
    let whole : nat_lt (length c.left) (32 * n) ≡ false = le-ltb _ _ (omega arith) in
    let read : digests_at n c ≡ Ok (take (32 * n) c.left, record { at = c.at + 32 * n; left = drop (32 * n) c.left }) = digests_at-is n c ∙ rw whole refl in
    rw (order, whole) (sym read)

-- where one is not
pub digests-short : (n : ℕ) (c : Cursor) → length c.left / 32 < n → digests_at n c ≡ Err (short (c.at + length c.left / 32 * 32))
digests-short n c less =
    let whole : nat_lt (length c.left) (32 * n) ≡ true = lt-ltb _ _ (omega arith) in
    digests_at-is n c ∙ rw whole refl
