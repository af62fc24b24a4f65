-- A table from digest to text that has the texts of some places of a state.
use Rattle.std.specs.Prelude.{◌≡◌, ◌≢◌, ℕ, List, Some}
use Rattle.std.specs.List.{AllByRecursion}
use Rattle.std.specs.FinMap.{get}
use Rattle.sha2.specs.Sha256.{sha256}
use Rattle.trie_model.specs.State.{State}
use Rattle.trie_model.specs.Root.{Table, text_at, zero_digest}

-- the text of each of these places stands under its own digest, which is not zero
pub record HoldsPlaces (table : Table) (state : State) (places : List (List ℕ)) : Type 0 where
  pub found : AllByRecursion (λ place. get table (sha256 (text_at state place)) ≡ Some (text_at state place)) places
  pub nonzero : AllByRecursion (λ place. sha256 (text_at state place) ≢ zero_digest) places
