-- What the gains and losses of a batch come to, digest by digest.
use Rattle.std.specs.Prelude.{◌≡◌, ◌≢◌, ℕ, ◌-◌, ◌<◌, true, nat_eq, List, map, IsTrue, ⊤}
use Rattle.std.specs.List.{All, AllWithin, Contains, count_by}
use Rattle.std.specs.List.Sorted.{IsStrictlySortedBy}
use Rattle.std.specs.declared.cmp.Ordering.{Ordering}
use Rattle.std.specs.Ordering.{nat_cmp, is_lt, is_le, on}
use Rattle.std.specs.Cmp.Lexicographic.{slice_cmp, pointwise}
use Rattle.base_core.specs.declared.hash.Digest.{Digest}
use Rattle.trie_update.specs.declared.change.LostText.{LostText}
use Rattle.trie_update.specs.declared.change.MadeText.{MadeText}
use Rattle.trie_update.specs.declared.errors.UpdateError.{UpdateError}
use Rattle.trie_update.specs.declared.errors.UpdateError.TheVariants.{Missing, Bad, Usage, Clash, Fault, NoMemory}
use Rattle.trie_update.specs.declared.ledger.Gained.{Gained}

-- how often a digest stands in a list
abbrev pub times_in : List Digest → List ℕ → ℕ
times_in digests digest = count_by (λ d. pointwise nat_eq d.0 digest) digests

-- the digest of each text that was gained
abbrev pub gained_digests : List Gained → List Digest
gained_digests gained = map (λ g. g.digest) gained

-- a text was gained under a digest
abbrev pub IsGained : List Gained → List ℕ → List ℕ → Type 0
IsGained gained digest text = Contains gained (record { digest = record { 0 = digest }; text = text })

-- no two different texts were gained under a digest
abbrev pub Agree : List Gained → Type 0
Agree gained = (digest a b : List ℕ) → IsGained gained digest a → IsGained gained digest b → a ≡ b

-- digests in the order of their bytes
abbrev pub by_bytes : Digest → Digest → Ordering
by_bytes = on (λ d. d.0) (slice_cmp nat_cmp)

-- each digest before a place is below one, or is at most that one
abbrev pub AreBelow : List Digest → ℕ → Digest → Type 0
AreBelow digests place digest = AllWithin (λ d. is_lt (by_bytes d digest) ≡ true) digests 0 place

abbrev pub AreUpTo : List Digest → ℕ → Digest → Type 0
AreUpTo digests place digest = AllWithin (λ d. is_le (by_bytes d digest) ≡ true) digests 0 place

-- digests that rise, so that each stands there once
abbrev pub Ascends : List Digest → Type 0
Ascends digests = IsStrictlySortedBy by_bytes digests

-- a text that was gained, with what its gains are more than its losses, or 0
abbrev pub made_text : List Gained → List Digest → Gained → MadeText
made_text gained lost g = record { digest = g.digest; text = g.text; times = times_in (gained_digests gained) g.digest.0 - times_in lost g.digest.0 }

-- Each text that was gained, once, and no other.
pub record IsMade (gained : List Gained) (lost : List Digest) (texts : List MadeText) : Type 0 where
  pub ascends : Ascends (map (λ m. m.digest) texts)
  pub each : All (λ m. IsGained gained m.digest.0 m.text × (m ≡ made_text gained lost (record { digest = m.digest; text = m.text }))) texts
  pub all : (g : Gained) → Contains gained g → Contains texts (made_text gained lost g)

-- by how much a digest was lost more often than gained, or 0
abbrev pub lost_text : List Digest → List Digest → Digest → LostText
lost_text gains lost digest = record { digest = digest; times = times_in lost digest.0 - times_in gains digest.0 }

-- Each digest that was lost more often than gained, once, and no other.
pub record IsLost (gains lost : List Digest) (losses : List LostText) : Type 0 where
  pub ascends : Ascends (map (λ l. l.digest) losses)
  pub each : All (λ l. (0 < l.times) × (l ≡ lost_text gains lost l.digest)) losses
  pub all : (digest : Digest) → times_in gains digest.0 < times_in lost digest.0 → Contains losses (lost_text gains lost digest)

-- What a batch comes to, where no two texts clash.
pub record IsBalance (gained : List Gained) (lost : List Digest) (texts : List MadeText) (losses : List LostText) : Type 0 where
  pub agree : Agree gained
  pub is_made : IsMade gained lost texts
  pub is_lost : IsLost (gained_digests gained) lost losses

-- Two texts were gained under a digest, and no two under a lower one.
pub record IsClash (gained : List Gained) (digest first second : List ℕ) : Type 0 where
  pub has_first : IsGained gained digest first
  pub has_second : IsGained gained digest second
  pub differ : first ≢ second
  pub least : (lower a b : List ℕ) → IsTrue (is_lt (slice_cmp nat_cmp lower digest)) → IsGained gained lower a → IsGained gained lower b → a ≡ b

-- two texts clash, or there was no memory
abbrev pub IsBalanceError : List Gained → UpdateError → Type 0
IsBalanceError gained (Missing digest) = ⊥
IsBalanceError gained (Bad digest) = ⊥
IsBalanceError gained (Usage digest) = ⊥
IsBalanceError gained (Clash digest first second) = IsClash gained digest.0 first second
IsBalanceError gained Fault = ⊥
IsBalanceError gained NoMemory = ⊤
