-- The texts that a batch gains and loses while it goes on, one entry for each occurrence, and the keys that appear and disappear.
use Rattle.std.specs.Prelude.{◌≡◌, ℕ, ◌+◌, ◌^◌, ◌<◌, List, [], ◌∷◌, ◌++◌, map, Option}
use Rattle.std.specs.List.{AllByRecursion}
use Rattle.sha2.specs.Sha256.{sha256}
use Rattle.byte_model.specs.Node.{ValueRef}
use Rattle.update_model.specs.Updates.{value_made, value_lost, appearing, disappearing}
use Rattle.base_core.specs.declared.hash.Digest.{Digest}
use Rattle.trie_update.specs.declared.ledger.Ledger.{Ledger}

-- One more text is gained, and nothing else.
pub record Gains (old new : Ledger) (digest : Digest) (text : List ℕ) : Type 0 where
  pub gained : new.gained.items ≡ old.gained.items ++ record { digest = digest; text = text } ∷ []
  pub lost : new.lost ≡ old.lost
  pub fresh : new.fresh ≡ old.fresh
  pub gone : new.gone ≡ old.gone

-- One more text is lost, and nothing else.
pub record Loses (old new : Ledger) (digest : Digest) : Type 0 where
  pub gained : new.gained ≡ old.gained
  pub lost : new.lost.items ≡ old.lost.items ++ digest ∷ []
  pub fresh : new.fresh ≡ old.fresh
  pub gone : new.gone ≡ old.gone

-- Some calls later: these texts were gained and these digests lost, in this order, and so many keys appeared and disappeared.
pub record Grows (old new : Ledger) (texts digests : List (List ℕ)) (appeared disappeared : ℕ) : Type 0 where
  pub gained : map (λ g. g.text) new.gained.items ≡ map (λ g. g.text) old.gained.items ++ texts
  pub lost : map (λ d. d.0) new.lost.items ≡ map (λ d. d.0) old.lost.items ++ digests
  pub fresh : new.fresh ≡ old.fresh + appeared
  pub gone : new.gone ≡ old.gone + disappeared

-- each text that was gained stands under its SHA-256 digest
abbrev pub IsNamed : Ledger → Type 0
IsNamed ledger = AllByRecursion (λ g. g.digest.0 ≡ sha256 g.text) ledger.gained.items

-- What one key's change makes of the ledger.
abbrev pub GrowsBy : Ledger → Ledger → Option ValueRef → Option (Option (List ℕ)) → Type 0
GrowsBy old new former change = Grows old new (value_made change) (value_lost former change) (appearing former change) (disappearing former change)

-- so many more keys can be counted
abbrev pub CanCount : Ledger → ℕ → Type 0
CanCount ledger n = (ledger.fresh + n < 2 ^ 64) × (ledger.gone + n < 2 ^ 64)
