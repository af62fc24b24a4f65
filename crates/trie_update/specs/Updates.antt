-- What a batch answers: over any texts by what it visits and what becomes of what is seen, and over the texts of a state by the states before and after.
use Rattle.std.specs.Prelude.{◌≡◌, ◌≢◌, ℕ, ◌<◌, List, [], ◌∷◌, ◌++◌, map, Option, None, Some, Result, Ok, Err, IsTrue, ⊤}
use Rattle.std.specs.List.{AllByRecursion, All, Contains}
use Rattle.std.specs.Option.{unwrap_or}
use Rattle.std.specs.Ordering.{nat_cmp, is_le}
use Rattle.std.specs.Cmp.Lexicographic.{slice_cmp}
use Rattle.sha2.specs.Sha256.{sha256}
use Rattle.trie_model.specs.State.{State}
use Rattle.trie_model.specs.Root as trie
use Rattle.trie_model.specs.Root.{zero_digest, total}
use Rattle.batch_model.specs.Changes as batch
use Rattle.batch_model.specs.Changes.{Changes, after, change_rows}
use Rattle.change_model.specs.Ledger as ledger
use Rattle.change_model.specs.Ledger.{made_texts, gain, loss}
use Rattle.change_model.specs.Visits.{Visits, no_text, no_node, no_usage}
use Rattle.update_model.specs.Tops.{top_digest, top_usage, pending}
use Rattle.update_model.specs.Updates.{Outcome}
use Rattle.base_core.specs.declared.hash.Digest.{Digest}
use Rattle.trie_update.specs.Balances.{Ascends, IsBalance, IsClash}
use Rattle.trie_update.specs.declared.change.Change.{Change}
use Rattle.trie_update.specs.declared.change.LostText.{LostText}
use Rattle.trie_update.specs.declared.change.MadeText.{MadeText}
use Rattle.trie_update.specs.declared.errors.UpdateError.{UpdateError}
use Rattle.trie_update.specs.declared.errors.UpdateError.TheVariants.{Missing, Bad, Usage, Clash, Fault, NoMemory}
use Rattle.trie_update.specs.declared.ledger.Gained.{Gained}

-- ---- over any texts

-- Two different texts have this digest.
pub record Clashes (digest : Digest) (one other : List ℕ) : Type 0 where
  pub first : sha256 one ≡ digest.0
  pub second : sha256 other ≡ digest.0
  pub differ : one ≢ other

-- Nothing is refused where the batch was carried out, and else the test that failed is told. Texts clash behind all visits.
abbrev pub AnswersUpdate : Visits → Result Change UpdateError → Type 0
AnswersUpdate visits (Ok change) = visits.refusal ≡ None
AnswersUpdate visits (Err (Missing named)) = visits.refusal ≡ Some (no_text named.0)
AnswersUpdate visits (Err (Bad named)) = visits.refusal ≡ Some (no_node named.0)
AnswersUpdate visits (Err (Usage named)) = visits.refusal ≡ Some (no_usage named.0)
AnswersUpdate visits (Err (Clash digest one other)) = (visits.refusal ≡ None) × Clashes digest one other
AnswersUpdate visits (Err Fault) = ⊤
AnswersUpdate visits (Err NoMemory) = ⊤

-- ---- by what becomes of what is seen

-- the texts that were gained, each under its digest, and the digests that were lost
pub record IsAccount (outcome : Outcome) (gained : List Gained) (lost : List Digest) : Type 0 where
  pub texts : map (λ g. g.text) gained ≡ outcome.made ++ pending outcome.top
  pub named : AllByRecursion (λ g. g.digest.0 ≡ sha256 g.text) gained
  pub digests : map (λ d. d.0) lost ≡ outcome.lost

-- what the batch comes to
pub record IsChangeOf (outcome : Outcome) (change : Change) : Type 0 where
  pub root : change.root.0 ≡ unwrap_or (top_digest outcome.top) zero_digest
  pub usage : change.usage ≡ Some (top_usage outcome.top)
  pub gained : List Gained
  pub lost : List Digest
  pub account : IsAccount outcome gained lost
  pub balance : IsBalance gained lost change.made change.lost
  pub fresh : change.fresh ≡ outcome.fresh
  pub gone : change.gone ≡ outcome.gone

pub record IsClashOf (outcome : Outcome) (digest : Digest) (one other : List ℕ) : Type 0 where
  pub gained : List Gained
  pub lost : List Digest
  pub account : IsAccount outcome gained lost
  pub clash : IsClash gained digest.0 one other

-- nothing is changed
pub record IsNoChange (root : Digest) (change : Change) : Type 0 where
  pub same : change.root ≡ root
  pub usage : change.usage ≡ None
  pub made : change.made ≡ []
  pub lost : change.lost ≡ []
  pub fresh : change.fresh ≡ 0
  pub gone : change.gone ≡ 0

abbrev pub ChangesNothing : Digest → Result Change UpdateError → Type 0
ChangesNothing root (Ok change) = IsNoChange root change
ChangesNothing root (Err error) = ⊥

abbrev pub ComesTo : Outcome → Result Change UpdateError → Type 0
ComesTo outcome (Ok change) = IsChangeOf outcome change
ComesTo outcome (Err (Missing named)) = ⊤
ComesTo outcome (Err (Bad named)) = ⊤
ComesTo outcome (Err (Usage named)) = ⊤
ComesTo outcome (Err (Clash digest one other)) = IsClashOf outcome digest one other
ComesTo outcome (Err Fault) = ⊤
ComesTo outcome (Err NoMemory) = ⊤

-- ---- over the texts of a state

-- Each distinct text that the batch makes, ascending by digest, with what its digest gains.
pub record IsMadeOf (state : State) (changes : Changes) (made : List MadeText) : Type 0 where
  pub ascends : Ascends (map (λ m. m.digest) made)
  pub each : All (λ m. Contains (made_texts state changes) m.text × (m.digest.0 ≡ sha256 m.text) × (m.times ≡ gain state changes m.digest.0)) made
  pub all : (text : List ℕ) → Contains (made_texts state changes) text → Contains (map (λ m. m.text) made) text

-- Each digest that loses occurrences, ascending, with how many.
pub record IsLostOf (state : State) (changes : Changes) (lost : List LostText) : Type 0 where
  pub ascends : Ascends (map (λ l. l.digest) lost)
  pub each : All (λ l. (0 < l.times) × (l.times ≡ loss state changes l.digest.0)) lost
  pub all : (digest : Digest) → 0 < loss state changes digest.0 → Contains (map (λ l. l.digest) lost) digest

-- Two different texts that the batch makes share this digest, and no two share a lower one.
pub record IsLeastClash (texts : List (List ℕ)) (digest : Digest) (one other : List ℕ) : Type 0 where
  pub first : Contains texts one
  pub second : Contains texts other
  pub clash : Clashes digest one other
  pub least : (a b : List ℕ) → Contains texts a → Contains texts b → a ≢ b → sha256 a ≡ sha256 b → IsTrue (is_le (slice_cmp nat_cmp digest.0 (sha256 a)))

-- The usage is told where something is changed, since nothing is read else.
abbrev pub usage_if : List batch.Change → ℕ → Option ℕ
usage_if [] used = None
usage_if (change ∷ changes) used = Some used

pub record IsChangeAfter (state : State) (changes : Changes) (change : Change) : Type 0 where
  pub root : change.root.0 ≡ trie.root (after state changes)
  pub usage : change.usage ≡ usage_if (change_rows changes) (total (after state changes))
  pub made : IsMadeOf state changes change.made
  pub lost : IsLostOf state changes change.lost
  pub fresh : change.fresh ≡ ledger.fresh state changes
  pub gone : change.gone ≡ ledger.gone state changes

-- Of the refusals there are those of two texts that share a digest, of the store, and of memory.
abbrev pub MeetsState : State → Changes → Result Change UpdateError → Type 0
MeetsState state changes (Ok change) = IsChangeAfter state changes change
MeetsState state changes (Err (Missing named)) = ⊥
MeetsState state changes (Err (Bad named)) = ⊥
MeetsState state changes (Err (Usage named)) = ⊥
MeetsState state changes (Err (Clash digest one other)) = IsLeastClash (made_texts state changes) digest one other
MeetsState state changes (Err Fault) = ⊤
MeetsState state changes (Err NoMemory) = ⊤
