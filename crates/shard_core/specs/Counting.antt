-- Several texts that are added to a store, and several digests that are released, one after the other. Such a row of calls may be cut short, and then some of them were made.
use Rattle.std.specs.Prelude.{◌≡◌, ℕ, ◌+◌, ◌^◌, ◌<◌, ◌≤◌, List, ◌∷◌, ◌++◌, map, IfNone, Some, Result, Ok, Err, ⊤}
use Rattle.std.specs.List.{AllByRecursion}
use Rattle.std.specs.FinMap.{get}
use Rattle.sha2.specs.Sha256.{sha256}
use Rattle.trie_model.specs.Root.{Table}
use Rattle.base_core.specs.declared.hash.Digest.{Digest}
use Rattle.count_model.specs.Entries.{Entry, Exceeds, times_of}
use Rattle.text_store.specs.Counting.{Clashes}
use Rattle.text_store.specs.declared.errors.AddError.{AddError}
use Rattle.text_store.specs.declared.errors.AddError.TheVariants.{Clash, Fault}
use Rattle.trie_update.specs.Balances.{Ascends}
use Rattle.trie_update.specs.declared.change.MadeText.{MadeText}
use Rattle.shard_core.specs.Ledgers.{gains_of}

-- ---- texts that are added

-- a text stands under its own digest, is wanted at least once where none is held, and can be counted
pub record IsAddable (texts : Table) (count_of : List ℕ → ℕ) (made : MadeText) : Type 0 where
  pub named : made.digest.0 ≡ sha256 made.text
  pub wanted : IfNone (get texts made.digest.0) (1 ≤ made.times)
  pub fits : count_of made.digest.0 + made.times < 2 ^ 64

-- Each text can be added, and their digests rise.
pub record CanAdd (texts : Table) (count_of : List ℕ → ℕ) (made : List MadeText) : Type 0 where
  pub ascends : Ascends (map (λ m. m.digest) made)
  pub each : AllByRecursion (IsAddable texts count_of) made

-- none of them clashes with a text that is held
abbrev pub AreClear : Table → List MadeText → Type 0
AreClear texts made = AllByRecursion (λ m. ¬ Clashes texts m.digest.0 m.text) made

-- All were added: none clashed, each is held now, and each digest is counted so much more often.
pub record AddsAll (texts texts_after : Table) (count_of count_after : List ℕ → ℕ) (made : List MadeText) : Type 0 where
  pub clear : AreClear texts made
  pub held : AllByRecursion (λ m. get texts_after m.digest.0 ≡ Some m.text) made
  pub counts : Exceeds count_of count_after (gains_of made)

-- Some were added: what was held is held, and no digest is counted less often, or more often than with all of them.
pub record AddsSome (texts texts_after : Table) (count_of count_after : List ℕ → ℕ) (made : List MadeText) : Type 0 where
  pub stays : (digest t : List ℕ) → get texts digest ≡ Some t → get texts_after digest ≡ Some t
  pub least : (digest : List ℕ) → count_of digest ≤ count_after digest
  pub most : (digest : List ℕ) → count_after digest ≤ count_of digest + times_of (gains_of made) digest

-- the first that clashes has this digest
pub record ClashesFirst (texts : Table) (made : List MadeText) (digest : Digest) : Type 0 where
  pub before : List MadeText
  pub here : MadeText
  pub behind : List MadeText
  pub parts : made ≡ before ++ here ∷ behind
  pub clear : AreClear texts before
  pub named : here.digest ≡ digest
  pub clash : Clashes texts here.digest.0 here.text

abbrev pub AnswersAddAll : Table → List MadeText → Result Unit AddError → Type 0
AnswersAddAll texts made (Ok added) = ⊤
AnswersAddAll texts made (Err (Clash digest)) = ClashesFirst texts made digest
AnswersAddAll texts made (Err Fault) = ⊤

-- ---- digests that are released

-- each digest is counted at least as often as it is to be released
abbrev pub CanRelease : (count_of : List ℕ → ℕ) → List Entry → Type 0
CanRelease count_of entries = (digest : List ℕ) → times_of entries digest ≤ count_of digest

-- Some were released: nothing is held that was not, and no digest is counted more often, or less often than without all of them.
pub record ReleasesSome (texts texts_after : Table) (count_of count_after : List ℕ → ℕ) (entries : List Entry) : Type 0 where
  pub only : (digest t : List ℕ) → get texts_after digest ≡ Some t → get texts digest ≡ Some t
  pub most : (digest : List ℕ) → count_after digest ≤ count_of digest
  pub least : (digest : List ℕ) → count_of digest ≤ count_after digest + times_of entries digest
