-- A state: a finite map from byte strings to byte strings.
use Rattle.std.specs.Prelude.{ℕ, ◌^◌, ◌≤◌, List, length, map}
use Rattle.std.specs.List.{AllByRecursion}
use Rattle.std.specs.Ordering.{nat_cmp}
use Rattle.std.specs.Cmp.Lexicographic.{slice_cmp}
use Rattle.std.specs.FinMap.{FinMap, entries}
use Rattle.byte_model.specs.Nibbles.{AreBytes, nibbles}
pub use Rattle.byte_model.specs.Nibbles.{longest_key}
use Rattle.byte_model.specs.Node.{longest_value}

-- the keys stand in the order of their bytes, a prefix first
abbrev pub State : Type 0
State = FinMap (slice_cmp nat_cmp) (List ℕ)

-- a key and a value are byte strings within the limits
pub record IsPair (pair : List ℕ × List ℕ) : Type 0 where
  pub key : AreBytes pair.0
  pub key_length : length pair.0 ≤ longest_key
  pub value : AreBytes pair.1
  pub value_length : length pair.1 ≤ longest_value

pub record IsState (state : State) : Type 0 where
  pub pairs : AllByRecursion IsPair (entries state)
  pub few : length (entries state) ≤ 2 ^ 32

-- A pair as the trie sees it: the nibbles of the key, and the value.
abbrev pub Row : Type 0
Row = List ℕ × List ℕ

-- the rows of a state, by rising path
unfoldable pub rows_of : State → List Row
rows_of state = map (λ pair. (nibbles pair.0, pair.1)) (entries state)
