-- The reads of a recording over a table that holds a state.
use Rattle.std.proofs.Common.{◌≡◌, ℕ, List, [], ◌∷◌, ◌++◌, map, Option, None, Some, option_map, refl, ap, ap₂, ◌∙◌}
use Rattle.std.specs.List.{AllByRecursion}
use Rattle.std.specs.FinMap.{get}
use Rattle.byte_model.specs.Nibbles.{AreBytes, nibbles}
use Rattle.trie_model.specs.State.{State, IsState}
use Rattle.trie_model.specs.Root.{Table, Holds, root}
use Rattle.visit_model.specs.Bounds.{at_most_one}
use Rattle.visit_model.specs.Visits as looking
use Rattle.visit_model.specs.Visits.{lookup_visits}
use Rattle.visit_model.proofs.Lookups.{lookup_of, lookup_visits-state}
use Rattle.recording_model.specs.Replays.{Visits, no_visits, and_reads, read_first, value_among, reads_visits}

-- the value of the row that was visited, if one was
pub value-one : (path : List ℕ) (found : Option (List ℕ)) → value_among (at_most_one (option_map (λ (text : List ℕ). (path, text)) found)) ≡ found
value-one path None = refl
value-one path (Some value) = refl

-- what the reads visit, told by the state
unfoldable pub looked : State → List (List ℕ) → Visits
looked state [] = no_visits
looked state (key ∷ reads) = record { digests = (lookup_of state key).digests ++ (looked state reads).digests; answers = get state key ∷ (looked state reads).answers; refusal = (looked state reads).refusal }

pub reads_visits-state : (table : Table) (state : State) → Holds table state → IsState state → (reads : List (List ℕ)) → AllByRecursion AreBytes reads → reads_visits table (root state) reads ≡ looked state reads
unfolding reads_visits and_reads looked
reads_visits-state table state held is [] bytes = refl
reads_visits-state table state held is (key ∷ reads) bytes =
    ap₂ (λ (v : looking.Visits) (w : Visits). read_first v w) (lookup_visits-state table state key held is bytes.0) (reads_visits-state table state held is reads bytes.1)
    ∙ ap (λ (o : Option (List ℕ)). record { digests = (lookup_of state key).digests ++ (looked state reads).digests; answers = o ∷ (looked state reads).answers; refusal = (looked state reads).refusal }) (value-one (nibbles key) (get state key))

looked-refusal : (state : State) (reads : List (List ℕ)) → (looked state reads).refusal ≡ None
unfolding looked
looked-refusal state [] = refl
looked-refusal state (key ∷ reads) = looked-refusal state reads

looked-answers : (state : State) (reads : List (List ℕ)) → (looked state reads).answers ≡ map (get state) reads
unfolding looked
looked-answers state [] = refl
looked-answers state (key ∷ reads) = ap (λ (os : List (Option (List ℕ))). get state key ∷ os) (looked-answers state reads)

pub reads_visits-refusal : (table : Table) (state : State) (reads : List (List ℕ)) → Holds table state → IsState state → AllByRecursion AreBytes reads → (reads_visits table (root state) reads).refusal ≡ None
reads_visits-refusal table state reads held is bytes = ap (λ (v : Visits). v.refusal) (reads_visits-state table state held is reads bytes) ∙ looked-refusal state reads

pub reads_visits-answers : (table : Table) (state : State) (reads : List (List ℕ)) → Holds table state → IsState state → AllByRecursion AreBytes reads → (reads_visits table (root state) reads).answers ≡ map (get state) reads
reads_visits-answers table state reads held is bytes = ap (λ (v : Visits). v.answers) (reads_visits-state table state held is reads bytes) ∙ looked-answers state reads
