use Rattle.std.proofs.Common.{◌≡◌, ℕ, ◌≤◌, List, length, Result, sym, ap, subst, arith}
use Rattle.std.specs.Prelude.{IsOkUnless}
use Rattle.byte_model.specs.Node.{longest_value}
use Rattle.byte_model.proofs.Digits.{length-nibbles}
use Rattle.trie_model.specs.State.{longest_key}
use Rattle.base_core.specs.declared.put_error.PutError.{PutError}
use Rattle.base_core.specs.declared.put_error.PutError.TheVariants.{NoMemory}
use Rattle.trie_read.proofs.listing.collect.Goals as goal

pub unreachable-requires : goal.unreachable-requires
unreachable-requires c =
    let key = c.in_ok-key.key in
    let short : length key ≤ longest_key = (let count = length-nibbles key in let same = ap length c.in_ok-key.ensures in let within = c.requires.short in omega arith) in
    let few : length c.in_ok-value.value ≤ longest_value = subst (λ (v : List ℕ). length v ≤ longest_value) (sym c.in_ok-value.ensures.copy) c.requires.value in
    let only : IsOkUnless c.put.result NoMemory = c.put.ensures.fits short few c.requires.room in
    let is : c.in-Err-KeyLong.field-0 ≡ NoMemory = subst (λ (r : Result (Unit {0}) PutError). IsOkUnless r NoMemory) c.in-Err-KeyLong.is only in
    let other = c.in-Err-KeyLong.field-0-is in
    cc
