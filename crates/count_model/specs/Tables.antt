-- The texts of live blocks, and tables that hold exactly these.
use Rattle.std.specs.Prelude.{◌≡◌, ℕ, ◌+◌, ◌≤◌, List, [], ◌∷◌, flat_map, None, Some, if◌then◌else◌}
use Rattle.std.specs.List.{AllByRecursion, list_any}
use Rattle.std.specs.Str.{bytes_eq}
use Rattle.std.specs.FinMap.{get}
use Rattle.sha2.specs.Sha256.{sha256}
use Rattle.trie_model.specs.State.{IsState}
use Rattle.trie_model.specs.Root.{Table, texts_of, zero_digest}
use Rattle.fork_model.specs.States.{ForkState}
use Rattle.count_model.specs.Counts.{count}

-- the texts of each live block in order; a text stands here as often as it occurs in them
unfoldable pub live_texts : ForkState → List (List ℕ)
live_texts forks = flat_map (λ block. texts_of block.state) forks.blocks

-- how many different texts stand in a list: each is counted where it stands last
unfoldable pub different : List (List ℕ) → ℕ
different [] = 0
different (t ∷ texts) = if list_any (bytes_eq t) texts then different texts else different texts + 1

abbrev pub distinct_texts : ForkState → ℕ
distinct_texts forks = different (live_texts forks)

-- the states of live blocks keep to the limits
abbrev pub AreStates : ForkState → Type 0
AreStates forks = AllByRecursion (λ block. IsState block.state) forks.blocks

-- A table has exactly the texts that are counted, each under its own digest and none under the zero one.
pub record HoldsCounted (table : Table) (forks : ForkState) : Type 0 where
  pub found : (t : List ℕ) → 1 ≤ count forks t → get table (sha256 t) ≡ Some t
  pub named : (digest t : List ℕ) → get table digest ≡ Some t → sha256 t ≡ digest
  pub only : (digest t : List ℕ) → get table digest ≡ Some t → 1 ≤ count forks t
  pub nonzero : get table zero_digest ≡ None
