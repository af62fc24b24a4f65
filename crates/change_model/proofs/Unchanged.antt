-- A batch that leaves the state as it was makes only texts of it.
use Rattle.std.proofs.Common.{◌≡◌, ℕ, List, ◌++◌, map, Some, Contains, sym, ◌∙◌, ap, subst, ◌⊎◌, inl, inr}
use Rattle.std.specs.FinMap.{entries, get}
use Rattle.byte_model.specs.Nibbles.{nibbles}
use Rattle.trie_model.specs.State.{State, Row, rows_of}
use Rattle.trie_model.specs.Root.{texts_of, text_at, places_of}
use Rattle.trie_model.proofs.Members.{IsIn, contains_of_in, in_of_contains, in-append_left, in-append_right, in-append_cases, in-map, in_map_from, all_of}
use Rattle.trie_model.proofs.Worked.{Pair, rows_of_pairs}
use Rattle.batch_model.specs.Changes.{Changes, Change, after}
use Rattle.change_model.specs.Places.{is_written, written_places}
use Rattle.change_model.specs.Ledger.{set_values, made_texts}
use Rattle.change_model.proofs.Filtered.{in_filter_from, in_filter_map_from}
use Rattle.batch_model.proofs.Laying.{get_of_all}
use Rattle.change_model.proofs.Balance.{set_values-after}

-- the value of a key is among those of the rows
pub value_in : (state : State) (key value : List ℕ) → get state key ≡ Some value → IsIn (map (λ row. row.1) (rows_of state)) value
unfolding rows_of
value_in state key value is =
    get_of_all (λ (pair : Pair). IsIn (map (λ row. row.1) (rows_of state)) pair.1) state
    (all_of (λ (pair : Pair). IsIn (map (λ row. row.1) (rows_of state)) pair.1) (entries state) (λ pair i. in-map (λ (row : Row). row.1) (rows_of_pairs (entries state)) (nibbles pair.0, pair.1) (in-map (λ (pair : Pair). (nibbles pair.0, pair.1)) (entries state) pair i))) key value is

pub made_before : (state : State) (changes : Changes) (t : List ℕ) → after state changes ≡ state → Contains (made_texts state changes) t → Contains (texts_of state) t
unfolding made_texts texts_of
made_before state changes t same h =
    contains_of_in (texts_of state) t (go (in-append_cases (map (text_at (after state changes)) (written_places state changes)) (set_values changes) t (in_of_contains (made_texts state changes) t h)))
  where
    go : IsIn (map (text_at (after state changes)) (written_places state changes)) t ⊎ IsIn (set_values changes) t → IsIn (map (text_at state) (places_of state) ++ map (λ row. row.1) (rows_of state)) t
    go (inl i) =
        let r = in_map_from (text_at (after state changes)) (written_places state changes) t i in
        let place = in_filter_from (is_written state changes) (places_of (after state changes)) r.0 r.1 in
        in-append_left (map (text_at state) (places_of state)) (map (λ row. row.1) (rows_of state)) t
        (subst (IsIn (map (text_at state) (places_of state))) r.2
        (subst (λ (s : State). IsIn (map (text_at s) (places_of s)) (text_at (after state changes) r.0)) same (in-map (text_at (after state changes)) (places_of (after state changes)) r.0 place.0)))
    go (inr i) =
        let r = in_filter_map_from (λ (change : Change). get (after state changes) change.0) (entries changes) t (subst (λ (vs : List (List ℕ)). IsIn vs t) (sym (set_values-after state changes)) i) in
        in-append_right (map (text_at state) (places_of state)) (map (λ row. row.1) (rows_of state)) t
        (value_in state r.0.0 t (ap (λ (s : State). get s r.0.0) (sym same) ∙ r.2))
