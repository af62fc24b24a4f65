-- What is told of a store in each of its states.
use Rattle.std.specs.Prelude.{ℕ, Option}
use Rattle.std.specs.Ordering.{nat_cmp}
use Rattle.std.specs.Cmp.Lexicographic.{slice_cmp}
use Rattle.std.specs.FinSet.{FinSet}
use Rattle.trie_model.specs.Root.{Table}

-- a set of digests
abbrev pub Digests : Type 0
Digests = FinSet (slice_cmp nat_cmp)

-- The texts held by digest, how many loads and faults were counted, the digests kept as loaded where these are told, and which states are alike: they hold the same texts, and agree in whatever else the object says.
pub record Store (S : Type 0) : Type 1 where
  pub texts : S → Table
  pub loads : S → ℕ
  pub faults : S → ℕ
  pub kept : S → Option Digests
  pub alike : S → S → Type 0
