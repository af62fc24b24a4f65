-- A walk over digests with a load for each.
use Rattle.std.proofs.Common.{◌≡◌, ℕ}
use Rattle.base_core.specs.Faults.{risen}
use Rattle.text_store.specs.Store.{Store}

-- what so many loads leave
pub record IsWalked {S : Type 0} (store : Store S) (old new : S) (n : ℕ) : Type 0 where
  pub same : store.texts new ≡ store.texts old
  pub related : store.alike old new
  pub counted : store.loads new ≡ risen (store.loads old) n
