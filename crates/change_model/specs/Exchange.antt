-- The two sides of a batch, text by text: which texts of the old state it takes out and which of the new one it puts in. What is on neither side stands in both states.
use Rattle.std.specs.Prelude.{ℕ, ◌||◌, not, nat_eq, Bool, List, ◌++◌, map, filter}
use Rattle.std.specs.List.{filter_map, count_by}
use Rattle.std.specs.Cmp.Lexicographic.{pointwise}
use Rattle.std.specs.FinMap.{get, entries}
use Rattle.sha2.specs.Sha256.{sha256}
use Rattle.trie_model.specs.State.{State}
use Rattle.trie_model.specs.Root.{text_at, places_of}
use Rattle.batch_model.specs.Changes.{Changes, after, changed_paths}
use Rattle.change_model.specs.Places.{leads_to, is_place_of}

-- whether a place of the old state is on the path of a changed key, or no place of the new state
unfoldable pub is_given_up : State → Changes → List ℕ → Bool
is_given_up state changes place = leads_to (changed_paths changes) place || not (is_place_of (after state changes) place)

-- the values that changed keys had
abbrev pub former_values : State → Changes → List (List ℕ)
former_values state changes = filter_map (λ change. get state change.0) (entries changes)

-- the texts of the places that are given up, and the values that changed keys had
unfoldable pub taken_texts : State → Changes → List (List ℕ)
taken_texts state changes = map (text_at state) (filter (is_given_up state changes) (places_of state)) ++ former_values state changes

-- how often a digest stands among some texts
abbrev pub count_of_digest : List ℕ → List (List ℕ) → ℕ
count_of_digest digest texts = count_by (λ t. pointwise nat_eq (sha256 t) digest) texts
