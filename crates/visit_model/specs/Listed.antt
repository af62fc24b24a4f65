-- The listing of a state, told by its places.
use Rattle.std.specs.Prelude.{ℕ, ◌||◌, Bool, List, [], ◌∷◌, Option, None, Some, if◌then◌else◌}
use Rattle.sha2.specs.Sha256.{sha256}
use Rattle.trie_model.specs.State.{State, Row}
use Rattle.trie_model.specs.Texts.{value_ref}
use Rattle.trie_model.specs.Root.{text_at}
use Rattle.trie_model.specs.Laws.{held_at}
use Rattle.visit_model.specs.Steps.{Step, node, value}
use Rattle.visit_model.specs.Bounds.{has_prefix, reaches}

-- whether a listing from a bound on goes to a place: where it stands on the way to the bound, and where it is not below it
abbrev pub is_listed_place : List ℕ → List ℕ → Bool
is_listed_place bound place = has_prefix bound place || reaches bound place

-- the value of a row whose path is not below the bound
abbrev pub row_steps : List ℕ → Option Row → List Step
row_steps bound None = []
row_steps bound (Some row) = if reaches bound row.0 then value row.0 (value_ref row.1) ∷ [] else []

-- what is visited at a place: its node, and then the value that the node holds
abbrev pub place_steps : State → List ℕ → List ℕ → List Step
place_steps state bound place = node (sha256 (text_at state place)) ∷ row_steps bound (held_at state place)
