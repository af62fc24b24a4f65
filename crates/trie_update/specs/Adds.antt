-- What some calls add to the ledger of a batch.
use Rattle.std.specs.Prelude.{ℕ, List}
use Rattle.trie_update.specs.declared.ledger.Ledger.{Ledger}
use Rattle.trie_update.specs.Accounts.{Grows, IsNamed}

-- These texts were gained, each under its SHA-256 digest, and these digests were lost, in this order, and so many keys appeared and disappeared.
pub record Adds (old new : Ledger) (made lost : List (List ℕ)) (fresh gone : ℕ) : Type 0 where
  pub grows : Grows old new made lost fresh gone
  pub named : IsNamed old → IsNamed new
