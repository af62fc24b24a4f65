-- What becomes of the root of a trie, before its record is written, and what a ledger has then.
use Rattle.std.specs.Prelude.{◌≡◌, ◌^◌, ◌<◌, map, Result, Ok, Err, ⊤}
use Rattle.update_model.specs.Sound.{StandsAt}
use Rattle.update_model.specs.Tops.{top_usage}
use Rattle.update_model.specs.Updates.{Outcome}
use Rattle.trie_update.specs.Accounts.{IsNamed}
use Rattle.trie_update.specs.Adds.{Adds}
use Rattle.trie_update.specs.Subs.{top_of_sub}
use Rattle.trie_update.specs.declared.change.Change.{Change}
use Rattle.trie_update.specs.declared.errors.UpdateError.{UpdateError}
use Rattle.trie_update.specs.declared.errors.UpdateError.TheVariants.{Missing, Bad, Usage, Clash, Fault, NoMemory}
use Rattle.trie_update.specs.declared.ledger.Ledger.{Ledger}
use Rattle.trie_update.specs.declared.updating.Placed.{Placed}

-- The root has become what the model says, and its record can be made.
pub record IsRooted (outcome : Outcome) (old new : Ledger) (placed : Placed) : Type 0 where
  pub top : top_of_sub placed.sub ≡ outcome.top
  pub adds : Adds old new outcome.made outcome.lost outcome.fresh outcome.gone
  pub stands : StandsAt 0 outcome.top
  pub small : top_usage outcome.top < 2 ^ 63

-- The subtree is the model's, and the ledger has what the model says and nothing else.
pub record CanFinish (outcome : Outcome) (ledger : Ledger) (placed : Placed) : Type 0 where
  pub top : top_of_sub placed.sub ≡ outcome.top
  pub texts : map (λ g. g.text) ledger.gained.items ≡ outcome.made
  pub named : IsNamed ledger
  pub digests : map (λ d. d.0) ledger.lost.items ≡ outcome.lost
  pub fresh : ledger.fresh ≡ outcome.fresh
  pub gone : ledger.gone ≡ outcome.gone

-- behind all visits two texts may clash, or there is no memory
abbrev pub OnlyClash : Result Change UpdateError → Type 0
OnlyClash (Ok change) = ⊤
OnlyClash (Err (Missing named)) = ⊥
OnlyClash (Err (Bad named)) = ⊥
OnlyClash (Err (Usage named)) = ⊥
OnlyClash (Err (Clash digest one other)) = ⊤
OnlyClash (Err Fault) = ⊥
OnlyClash (Err NoMemory) = ⊤
