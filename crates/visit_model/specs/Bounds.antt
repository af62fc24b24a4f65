-- Which paths a lookup and a listing meet.
use Rattle.std.specs.Prelude.{◌≡◌, ℕ, ◌%◌, ◌≤◌, Bool, true, List, [], length, Option, is_some}
use Rattle.std.specs.List.{cons_option}
use Rattle.std.specs.Ordering.{nat_cmp, is_ge}
use Rattle.std.specs.Cmp.Lexicographic.{slice_cmp}
use Rattle.byte_model.specs.PackedPath.{longest_path}
use Rattle.byte_model.specs.Node.{longest_value}
use Rattle.trie_model.specs.State.{Row}
use Rattle.trie_model.specs.Tree.{rest_behind}

-- whether a path begins with a prefix
abbrev pub has_prefix : List ℕ → List ℕ → Bool
has_prefix path prefix = is_some (rest_behind prefix path)

-- whether a path, or a key, is not below a bound in its order
abbrev pub reaches : List ℕ → List ℕ → Bool
reaches bound path = is_ge (slice_cmp nat_cmp path bound)

-- the one that is there, or none
abbrev pub at_most_one : {X : Type 0} → Option X → List X
at_most_one x = cons_option x []

-- What each row of a listing keeps to over any set of texts: its path is not below the bound and has the nibbles of whole bytes, and path and value are within their limits.
pub record IsListed (bound : List ℕ) (row : Row) : Type 0 where
  pub reached : reaches bound row.0 ≡ true
  pub whole : length row.0 % 2 ≡ 0
  pub path_length : length row.0 ≤ longest_path
  pub value_length : length row.1 ≤ longest_value
